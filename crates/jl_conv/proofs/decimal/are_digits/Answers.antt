use Rattle.std.proofs.Common.{◌∙◌, sym, arith}
use Rattle.jl_token.specs.Characters.{is_digit}
use Rattle.jl_conv.proofs.Splits.{both_digits, first_bad}
use Rattle.jl_conv.proofs.decimal.are_digits.Goals as goal

pub returns-then-all_digits : goal.returns-then-all_digits
returns-then-all_digits c =
    c.all_digits-then-all_digits.ensures
    ∙ sym (both_digits is_digit c.args.whole.now c.args.fraction.now (λ e. absurd (omega arith))
    (sym c.all_digits.ensures ∙ c.if-all_digits.true))

pub returns-else-all_digits : goal.returns-else-all_digits
returns-else-all_digits c =
    c.if-all_digits.false
    ∙ sym (first_bad is_digit c.args.whole.now c.args.fraction.now (λ e. absurd (omega arith)) (sym c.all_digits.ensures
    ∙ c.if-all_digits.false))
