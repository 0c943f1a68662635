use Rattle.std.proofs.Common.{◌≡◌, ◌∷◌, [], sym, ap, ◌∙◌, subst, arith, w64, to_z, of_z, pos}
use Rattle.std.proofs.lemmas.Int.{to_z-of_z}
use Rattle.std.proofs.lemmas.Result.{on_ok_weaker}
use Rattle.std.specs.Fmt.{decimal}
use Rattle.std.specs.Prelude.{int_lt, unsigned_abs}
use Rattle.jl_num.specs.Digits.{number_text}
use Rattle.jl_num.specs.Number.{IsNumber}
use Rattle.jl_num.proofs.Quotient.{in_word}
use Rattle.jl_record.specs.Bounded.{Appends}
use Rattle.jl_record.proofs.Holding.{appends_both}
use Rattle.jl_record.proofs.WrittenParts.{below_zero_text, from_zero_text}
use Rattle.jl_record.proofs.written.write_number.Goals as goal

pub returns-then-whole-lt0-clause-holds : goal.returns-then-whole-lt0-clause-holds
returns-then-whole-lt0-clause-holds c =
    let n = c.in-Some.whole in
    let is_n = subst IsNumber (sym c.in-Some.ensures.same) c.in-Some.ensures.inside in
    let same : to_z w64 (of_z w64 n) ≡ n = to_z-of_z w64 n (in_word n is_n) in
    let size : c.unsigned_abs.result ≡ unsigned_abs n = c.unsigned_abs.ensures.value ∙ ap unsigned_abs same in
    let bound = c.unsigned_abs.ensures.bound in
    let text = below_zero_text n (ap (λ z. int_lt z (pos 0)) (sym same) ∙ c.if-whole-lt0.true)
    (omega (arith, size, bound)) in
    on_ok_weaker _
    (λ h. subst (Appends _ _)
    (ap (λ n. 45 ∷ decimal n) size ∙ sym text ∙ ap (λ n. number_text n 10) c.in-Some.ensures.same)
    (appends_both _ _ _ (45 ∷ []) (decimal c.unsigned_abs.result) c.in_ok-word.ensures.holds h))
    c.number.ensures.holds

pub returns-clause-holds : goal.returns-clause-holds
returns-clause-holds c =
    let n = c.in-Some.whole in
    let is_n = subst IsNumber (sym c.in-Some.ensures.same) c.in-Some.ensures.inside in
    let same : to_z w64 (of_z w64 n) ≡ n = to_z-of_z w64 n (in_word n is_n) in
    let size : c.unsigned_abs-2.result ≡ unsigned_abs n = c.unsigned_abs-2.ensures.value ∙ ap unsigned_abs same in
    let bound = c.unsigned_abs-2.ensures.bound in
    let text = from_zero_text n (ap (λ z. int_lt z (pos 0)) (sym same) ∙ c.if-whole-lt0.false)
    (omega (arith, size, bound)) in
    on_ok_weaker _
    (λ h. subst (Appends _ _) (ap decimal size ∙ sym text ∙ ap (λ n. number_text n 10) c.in-Some.ensures.same) h)
    c.number-2.ensures.holds
