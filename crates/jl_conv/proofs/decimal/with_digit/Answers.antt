use Rattle.std.proofs.Common.{◌∙◌, ◌*◌, ◌^◌, ◌-◌, min, ap}
use Rattle.jl_conv.proofs.Amounts.{zero_digit, far_digit, near_digit}
use Rattle.jl_conv.proofs.decimal.with_digit.Goals as goal

pub returns-then-digit-eq0-clause-amount : goal.returns-then-digit-eq0-clause-amount
returns-then-digit-eq0-clause-amount c = λ m s. zero_digit _ _ m _ c.if-digit-eq0.true s

pub returns-then-amount-gt15-clause-amount : goal.returns-then-amount-gt15-clause-amount
returns-then-amount-gt15-clause-amount c =
    λ m s. far_digit _ _ m _ c.if-amount-eq0.false c.if-digit-eq0.false c.requires.digit c.if-amount-gt15.true s

pub returns-clause-amount : goal.returns-clause-amount
returns-clause-amount c =
    λ m s. near_digit _ _ m _ c.saturating_mul-shifted.result _ c.if-digit-eq0.false c.requires.digit
    (c.saturating_mul-shifted.ensures ∙ ap (λ p. min (c.args.amount.coefficient * p) (2 ^ 64 - 1))
    c.power_of_ten.ensures)
    c.saturating_add.ensures s
