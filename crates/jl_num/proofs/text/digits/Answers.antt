use Rattle.std.proofs.Common.{◌≡◌, reverse, sym, subst, ap, ◌∙◌, w64, to_z, of_z, unsigned_abs, pos}
use Rattle.std.specs.Prelude.{int_lt}
use Rattle.std.proofs.lemmas.Int.{to_z-of_z}
use Rattle.jl_num.specs.Number.{IsNumber}
use Rattle.jl_num.specs.Digits.{digits_of}
use Rattle.jl_num.proofs.Quotient.{in_word}
use Rattle.jl_num.proofs.Places.{one_more, last_one, negative_text, positive_text}
use Rattle.jl_num.proofs.text.digits.Goals as goal
use Rattle.jl_num.proofs.text.digits.Goals.{then-negative+in_ok-push-3, else-negative}

pub loop-rest-preserved : goal.loop-rest-preserved
loop-rest-preserved c =
    let before = c.loop-rest.invariant in
    record {
      base = before.base;
      same_radix = before.same_radix;
      written = rw (c.in_ok-push.ensures.items, c.digit.ensures)
          (one_more _ c.loop-rest.rest _ c.loop-rest.text.items before.base c.loop-rest-test.true before.written);
    }

pub returns : goal.returns
returns c =
    let n = c.in-Some.n in
    let is_n = subst IsNumber (sym c.in-Some.ensures.same) c.in-Some.ensures.inside in
    let same : to_z w64 (of_z w64 n) ≡ n = to_z-of_z w64 n (in_word n is_n) in
    let before = c.loop-rest.invariant in
    let size : reverse c.push-2.new.self.items ≡ digits_of c.args.radix (unsigned_abs n) =
    rw (c.in_ok-push-2.ensures.items, c.digit-2.ensures)
    (last_one _ c.loop-rest.rest _ c.loop-rest.text.items c.loop-rest-test.false before.written
    ∙ ap (λ r. digits_of r (unsigned_abs (to_z w64 (of_z w64 n)))) before.same_radix
    ∙ ap (λ z. digits_of c.args.radix (unsigned_abs z)) same) in
    let sign = ap (λ z. int_lt z (pos 0)) (sym same) in
    rw (← c.in-Some.ensures.same)
    (c.reverse.ensures.items
    ∙ elim c.if-negative.branch [
      | then-negative+in_ok-push-3 w ↦
          ap (λ v. reverse v.items) w.text-is ∙ ap reverse w.in_ok-push-3.ensures.items
          ∙ negative_text n c.args.radix c.push-2.new.self.items (sign ∙ w.if-negative.true) size
      | else-negative w ↦
          ap (λ v. reverse v.items) w.text-is
          ∙ positive_text n c.args.radix c.push-2.new.self.items (sign ∙ w.if-negative.false) size
    ])
