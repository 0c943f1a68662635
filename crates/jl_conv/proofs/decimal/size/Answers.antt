use Rattle.std.proofs.Common.{◌∙◌, sym, ap, subst, ◌+◌, ◌*◌, ◌^◌, take, arith}
use Rattle.jl_token.specs.Characters.{decimal_from}
use Rattle.jl_conv.specs.inner.Amounts.{Agree}
use Rattle.jl_conv.proofs.Amounts.{agree_more, decimal_more}
use Rattle.jl_conv.proofs.decimal.size.Goals as goal

pub loop-unit-preserved : goal.loop-unit-preserved
loop-unit-preserved c =
    let units = c.args.digits.now in
    let i = c.loop-unit.unit-index in
    subst (Agree (2 ^ 63) c.saturating_add-number.result)
    (ap (λ d. decimal_from 0 (take i units) * 10 + d) c.digit_value.ensures.value
    ∙ sym (decimal_more 0 units i c.loop-unit-test.true))
    (agree_more (2 ^ 63) 10 c.loop-unit.number (decimal_from 0 (take i units)) c.digit_value.result
    c.saturating_mul.result _
    (omega arith) (omega arith) c.saturating_mul.ensures c.saturating_add-number.ensures c.loop-unit.invariant)
