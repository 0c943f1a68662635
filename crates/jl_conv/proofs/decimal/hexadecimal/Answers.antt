use Rattle.std.proofs.Common.{◌∙◌, sym, ap, subst, ◌+◌, ◌*◌, ◌^◌, take, arith}
use Rattle.jl_token.specs.Characters.{hex_from}
use Rattle.jl_conv.specs.inner.Amounts.{Agree}
use Rattle.jl_conv.proofs.Amounts.{agree_more, hex_more}
use Rattle.jl_conv.proofs.decimal.hexadecimal.Goals as goal

pub loop-unit-preserved : goal.loop-unit-preserved
loop-unit-preserved c =
    let units = c.args.digits.now in
    let i = c.loop-unit.unit-index in
    subst (Agree (2 ^ 53) c.saturating_add-number.result)
    (ap (λ d. hex_from 0 (take i units) * 16 + d) c.hex_digit_value.ensures.value
    ∙ sym (hex_more 0 units i c.loop-unit-test.true))
    (agree_more (2 ^ 53) 16 c.loop-unit.number (hex_from 0 (take i units)) c.hex_digit_value.result
    c.saturating_mul.result _
    (omega arith) (omega arith) c.saturating_mul.ensures c.saturating_add-number.ensures c.loop-unit.invariant)
