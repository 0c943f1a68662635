use Rattle.std.proofs.Common.{◌≡◌, ◌≤◌, ℕ, ℤ, pos, negsuc, ◌≤ℤ◌, Some, true, false, ap, ◌∙◌, w64, arith}
use Rattle.std.proofs.lemmas.Int.{ints, to_z_pos}
use mir.Val.{SFits, to_z}
use Rattle.jl_lex.proofs.NumberLoops.{number_digit, number_letter, number_none, number_some, number_small}
use Rattle.jl_lex.proofs.numbers.number.Goals as goal

pub returns-then-is_digit_at : goal.returns-then-is_digit_at
returns-then-is_digit_at c =
    number_digit c.args.units.now c.args.at c.numeral_after-numeral.result _ c.numeral_after-numeral.ensures
    c.if-is_digit_at.ensures

pub returns-in-Some : goal.returns-in-Some
returns-in-Some c = number_letter c.args.units.now c.args.at c.numeral_after-numeral.result _ _
    c.numeral_after-numeral.ensures c.in-Some.ensures.0

pub returns-in_default-value : goal.returns-in_default-value
returns-in_default-value c =
    number_none c.args.units.now c.args.at c.numeral_after-numeral.result _ c.numeral_after-numeral.ensures
    c.if-is_digit_at.ensures c.in_default.ensures c.in_default-value.is

small : (v : ℕ) → v ≤ 9007199254740991 → SFits w64 (pos v)
small v h = omega (arith, ints)

as_whole : (v : ℕ) → v ≤ 9007199254740991 → to_z w64 v ≡ pos v
as_whole v h = to_z_pos w64 v (omega arith)

is_number : (v : ℕ) → v ≤ 9007199254740991 → (negsuc 9007199254740990 ≤ℤ to_z w64 v)
    × (to_z w64 v ≤ℤ pos 9007199254740991)
is_number v h = rw (as_whole v h) (omega (arith, ints), omega (arith, ints))

pub overflow_cast-value : goal.overflow_cast-value
overflow_cast-value c = small c.in-Some-value.value
    (number_small c.args.units.now c.args.at c.numeral_after-numeral.result _ c.in-Some-value.value
    c.numeral_after-numeral.ensures c.in-Some-value.is)

pub returns-in-Ok : goal.returns-in-Ok
returns-in-Ok c =
    let n = c.numeral_after-numeral.ensures in
    let h = number_small c.args.units.now c.args.at c.numeral_after-numeral.result _ c.in-Some-value.value n
    c.in-Some-value.is in (
      number_some c.args.units.now c.args.at c.numeral_after-numeral.result _ c.in-Some-value.value c.in-Ok.number n
          c.if-is_digit_at.ensures c.in_default.ensures c.in-Some-value.is (c.in-Ok.ensures.made
          ∙ ap (λ (z : ℤ). Some z) (as_whole c.in-Some-value.value h)),
      n.2,
      n.3,
    )

pub returns-in-Err : goal.returns-in-Err
returns-in-Err c =
    let h = number_small c.args.units.now c.args.at c.numeral_after-numeral.result _ c.in-Some-value.value
    c.numeral_after-numeral.ensures c.in-Some-value.is in
    absurd (apart (c.in-Err.ensures.inside.1 (is_number c.in-Some-value.value h))) where
      apart : false ≡ true → ⊥
      apart e = cc
