use Rattle.std.proofs.Common.{◌∙◌, sym, ap, ◌^◌, ◌<◌, length, arith}
use Rattle.jl_token.specs.Characters.{is_digit}
use Rattle.jl_lex.proofs.AmountLemmas.{none_stands}
use Rattle.std.specs.List.{before_first, after_first}
use Rattle.jl_conv.specs.Numerals.{is_point}
use Rattle.jl_conv.proofs.Splits.{second_digits}
use Rattle.jl_conv.proofs.Values.{exponent_is, literal}
use Rattle.jl_conv.proofs.decimal.decimal.Goals as goal

pub read-amount-requires-clause-digits : goal.read-amount-requires-clause-digits
read-amount-requires-clause-digits c =
    second_digits is_digit c.split_at_point.result.0.now c.split_at_point.result.1.now (sym c.are_digits.ensures
    ∙ c.if-not-are_digits.false)

pub returns : goal.returns
returns c =
    let units = c.args.units.now in
    let whole = c.split_at_point.result.0.now in
    let fraction = c.split_at_point.result.1.now in
    let significand = c.split_at_letter.ensures.before in
    let amount = c.read-amount.ensures.amount _ (c.read.ensures.amount 0 none_stands) in
    let few : c.read-amount.result.zeros < 2 ^ 63 = omega arith in
    let short : length fraction < 2 ^ 62 = omega arith in
    literal c.args.negative units whole fraction c.in-Some.exponent c.read-amount.result.coefficient
    c.read-amount.result.zeros
    c.saturating_add-lower.result _
    (sym c.is_infinity.ensures ∙ c.if-is_infinity.false)
    (c.split_at_point.ensures.before ∙ ap (before_first is_point) significand)
    (c.split_at_point.ensures.after ∙ ap (after_first is_point) significand)
    (sym c.are_digits.ensures ∙ c.if-not-are_digits.false)
    (exponent_is units c.split_at_letter.result.1 c.in-Some.exponent c.split_at_letter.ensures.after c.in-Some.ensures)
    few short c.saturating_add-lower.ensures amount c.value.ensures
