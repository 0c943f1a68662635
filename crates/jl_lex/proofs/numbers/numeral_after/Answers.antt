use Rattle.std.proofs.Common.{◌∷◌, [], drop, ap, sym, ◌∙◌, List, ℕ, arith}
use Rattle.jl_token.specs.Characters.{is_digit}
use Rattle.jl_token.specs.inner.Scanner.{many, one_unit, after_whole}
use Rattle.jl_lex.proofs.AmountLemmas.{none_stands}
use Rattle.jl_lex.proofs.NumberLoops.{numeral_from, begin_zero, begin_point, begin_digit, digit_first, first_stands}
use Rattle.jl_lex.proofs.NumberLoops.{first_zeros}
use Rattle.jl_lex.proofs.numbers.numeral_after.Goals as goal

pub returns-then-unit-eq48 : goal.returns-then-unit-eq48
returns-then-unit-eq48 c =
    numeral_from c.args.units.now c.args.at c.args.at c.after_zero.result _ _
    (begin_zero c.args.unit (drop c.args.at c.args.units.now) c.if-unit-eq48.true) (omega arith) c.after_zero.ensures

pub returns-then-unit-eq46 : goal.returns-then-unit-eq46
returns-then-unit-eq46 c =
    numeral_from c.args.units.now c.args.at c.args.at c.after_point.result _ _
    (begin_point c.args.unit (drop c.args.at c.args.units.now) c.if-unit-eq46.true) (omega arith)
    (c.after_point.ensures.read [] none_stands)

pub digits-end-requires-clause-few : goal.digits-end-requires-clause-few
digits-end-requires-clause-few c =
    omega (
      arith,
      first_zeros c.args.unit c.add_digit-first.result.coefficient c.add_digit-first.result.zeros
          c.if-unit-eq48.false c.add_digit-first.ensures.amount,
    )

pub returns : goal.returns
returns c =
    let us = drop c.args.at c.args.units.now in
    let d = digit_first c.args.unit us c.requires.begins c.if-unit-eq46.false in
    let r = c.digits-end.ensures in
    numeral_from c.args.units.now c.args.at c.digits-end.result.1 c.after_whole.result _ _
    (begin_digit c.args.unit us c.if-unit-eq48.false c.if-unit-eq46.false d
    ∙ ap (λ (x : List ℕ). after_whole (c.args.unit ∷ (many (one_unit is_digit) us).0) x) (sym r.rest)) r.later
    (c.after_whole.ensures.read (c.args.unit ∷ (many (one_unit is_digit) us).0)
    (first_stands c.args.unit c.add_digit-first.result.coefficient c.add_digit-first.result.zeros
    c.digits-end.result.0.coefficient c.digits-end.result.0.zeros us d c.add_digit-first.ensures.amount r.amount))
