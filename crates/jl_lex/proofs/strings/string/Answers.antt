use Rattle.std.proofs.Common.{◌≡◌, ℕ, List, ◌&&◌, Bool, true, false, drop, refl, sym, ap, ◌∙◌, subst, arith}
use Rattle.std.proofs.Math.Bool.{not}
use Rattle.jl_token.specs.inner.Scanner.{character, many, string_end, string_done}
use Rattle.jl_lex.specs.inner.Parts.{values}
use Rattle.jl_lex.proofs.StringLoops.{StringSoFar, string_begins, string_more, string_ends}
use Rattle.jl_lex.proofs.Loops.{found_later}
use Rattle.jl_lex.proofs.strings.string.Goals as goal

pub loop-next-init : goal.loop-next-init
loop-next-init c = record {
  string = subst
      (λ (x : List ℕ). StringSoFar c.args.mark x true (drop c.args.at c.args.units.now)
      (string_end c.args.mark (many (character c.args.mark) (drop c.args.at c.args.units.now))))
      (sym c.new-text.ensures.items) (string_begins c.args.mark (drop c.args.at c.args.units.now));
  later = omega arith;
  within = c.requires.within;
}

pub loop-next-preserved-then-not-next : goal.loop-next-preserved-then-not-next
loop-next-preserved-then-not-next c =
    let e = c.in-Some.ensures in
    let all = string_end c.args.mark (many (character c.args.mark) (drop c.args.at c.args.units.now)) in
    let mid = drop c.in-Some.next.end c.args.units.now in
    let n = string_more c.args.mark c.requires.quote c.loop-next.text.items (values c.in-Some.next.unit)
    (drop c.loop-next.end c.args.units.now) mid c.loop-next.plain c.in-Some.next.plain false all e.0
    (and_no c.loop-next.plain c.in-Some.next.plain c.if-not-next.true) c.loop-next.invariant.string in
    record {
      string = subst (λ (x : List ℕ). StringSoFar c.args.mark x false mid all) (sym c.in_ok-put.ensures) n;
      later = omega (arith, e.1);
      within = e.2;
    } where
      and_no : (a b : Bool) → not b ≡ true → (a && b) ≡ false
      and_no true false h = refl
      and_no true true h = absurd cc
      and_no false b h = refl

pub loop-next-preserved : goal.loop-next-preserved
loop-next-preserved c =
    let e = c.in-Some.ensures in
    let all = string_end c.args.mark (many (character c.args.mark) (drop c.args.at c.args.units.now)) in
    let mid = drop c.in-Some.next.end c.args.units.now in
    let n = string_more c.args.mark c.requires.quote c.loop-next.text.items (values c.in-Some.next.unit)
    (drop c.loop-next.end c.args.units.now) mid c.loop-next.plain c.in-Some.next.plain c.loop-next.plain all e.0
    (and_same c.loop-next.plain c.in-Some.next.plain c.if-not-next.false) c.loop-next.invariant.string in
    record {
      string = subst (λ (x : List ℕ). StringSoFar c.args.mark x c.loop-next.plain mid all)
          (sym c.in_ok-put.ensures) n;
      later = omega (arith, e.1);
      within = e.2;
    } where
      and_same : (a b : Bool) → not b ≡ false → (a && b) ≡ a
      and_same true true h = refl
      and_same true false h = absurd cc
      and_same false b h = refl

pub returns : goal.returns
returns c =
    let us = drop c.loop-next.end c.args.units.now in
    let all = string_end c.args.mark (many (character c.args.mark) (drop c.args.at c.args.units.now)) in
    let e = string_ends c.args.mark c.requires.quote c.loop-next.text.items us c.loop-next.plain all
    c.in_default.ensures c.loop-next.invariant.string in
    found_later c.args.units.now c.args.at c.loop-next.end c.close_string.result _ all
    (ap (λ (x : List ℕ). string_done c.args.mark x c.loop-next.plain us) c.as_slice.ensures.value ∙ e)
    c.loop-next.invariant.later c.close_string.ensures
