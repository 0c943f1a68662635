use Rattle.std.proofs.Common.{◌≡◌, ℕ, List, [], ◌∷◌, ◌++◌, ◌||◌, Bool, true, false, drop, refl, sym, ap, ◌∙◌, subst}
use Rattle.std.proofs.Common.{arith}
use Rattle.jl_token.specs.Characters.{is_identifier_start}
use Rattle.jl_token.specs.inner.Scanner.{letter, name_from, name_done}
use Rattle.jl_lex.proofs.Loops.{NameSoFar, name_none, name_begins, name_more, name_ends, found_named}
use Rattle.jl_lex.proofs.names.name.Goals as goal

pub returns-in_default : goal.returns-in_default
returns-in_default c = name_none (drop c.args.at c.args.units.now) c.in_default.ensures

pub loop-next-init : goal.loop-next-init
loop-next-init c =
    let e = c.in-Some.ensures in
    let n = name_begins (drop c.args.at c.args.units.now) (drop c.in-Some.first.end c.args.units.now)
    c.in-Some.first.unit c.in-Some.first.escaped e.0 in
    let t : c.in-Some.first.unit ∷ [] ≡ c.push.new.self.items =
    sym (c.in_ok-push.ensures.items ∙ ap (λ (x : List ℕ). x ++ c.in-Some.first.unit ∷ []) c.new-text.ensures.items) in
    record {
      name = subst (λ (x : List ℕ). NameSoFar x c.in-Some.first.escaped
          (drop c.in-Some.first.end c.args.units.now)
          (name_from (letter is_identifier_start (drop c.args.at c.args.units.now)))) t n;
      later = e.1;
      within = e.2;
    }

pub loop-next-preserved-then-next : goal.loop-next-preserved-then-next
loop-next-preserved-then-next c =
    let e = c.in-Some-letter_at.ensures in
    let us = drop c.loop-next.end c.args.units.now in
    let mid = drop c.in-Some-letter_at.next.end c.args.units.now in
    let n = name_more c.loop-next.text.items us mid c.loop-next.escaped c.in-Some-letter_at.next.escaped true
    c.in-Some-letter_at.next.unit (name_from (letter is_identifier_start (drop c.args.at c.args.units.now))) e.0
    (or_true c.loop-next.escaped c.in-Some-letter_at.next.escaped c.if-next.true) c.loop-next.invariant.name in
    record {
      name = subst (λ (x : List ℕ). NameSoFar x true mid
          (name_from (letter is_identifier_start (drop c.args.at c.args.units.now)))) (sym c.in_ok-push-2.ensures.items)
          n;
      later = omega (arith, e.1);
      within = e.2;
    } where
      or_true : (a b : Bool) → b ≡ true → (a || b) ≡ true
      or_true true b h = refl
      or_true false b h = h

pub loop-next-preserved : goal.loop-next-preserved
loop-next-preserved c =
    let e = c.in-Some-letter_at.ensures in
    let us = drop c.loop-next.end c.args.units.now in
    let mid = drop c.in-Some-letter_at.next.end c.args.units.now in
    let n = name_more c.loop-next.text.items us mid c.loop-next.escaped c.in-Some-letter_at.next.escaped
    c.loop-next.escaped c.in-Some-letter_at.next.unit
    (name_from (letter is_identifier_start (drop c.args.at c.args.units.now))) e.0
    (or_same c.loop-next.escaped c.in-Some-letter_at.next.escaped c.if-next.false) c.loop-next.invariant.name in
    record {
      name = subst (λ (x : List ℕ). NameSoFar x c.loop-next.escaped mid
          (name_from (letter is_identifier_start (drop c.args.at c.args.units.now)))) (sym c.in_ok-push-2.ensures.items)
          n;
      later = omega (arith, e.1);
      within = e.2;
    } where
      or_same : (a b : Bool) → b ≡ false → (a || b) ≡ a
      or_same true b h = refl
      or_same false b h = h

pub returns : goal.returns
returns c =
    let us = drop c.loop-next.end c.args.units.now in
    let e = name_ends c.loop-next.text.items us c.loop-next.escaped
    (name_from (letter is_identifier_start (drop c.args.at c.args.units.now))) c.in_default-letter_at.ensures
    c.loop-next.invariant.name in
    let t = c.as_slice.ensures.value in
    found_named c.args.units.now c.args.at c.loop-next.end c.name_token.result _
    (name_from (letter is_identifier_start (drop c.args.at c.args.units.now)))
    (ap (λ (x : List ℕ). name_done x c.loop-next.escaped (drop c.loop-next.end c.args.units.now)) t ∙ e)
    c.loop-next.invariant.later c.loop-next.invariant.within c.name_token.ensures
