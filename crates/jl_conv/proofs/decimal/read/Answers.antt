use Rattle.std.proofs.Common.{◌∙◌, sym, ap, subst, ◌+◌, ◌*◌, take, arith}
use Rattle.jl_token.specs.Characters.{decimal_from}
use Rattle.jl_lex.specs.inner.Amounts.{Stands}
use Rattle.jl_conv.proofs.Amounts.{decimal_more}
use Rattle.jl_conv.proofs.decimal.read.Goals as goal

pub loop-unit-preserved : goal.loop-unit-preserved
loop-unit-preserved c =
    let units = c.args.digits.now in
    let i = c.loop-unit.unit-index in
    let new = c.with_digit-read.result in
    let before = c.loop-unit.invariant in
    let few = before.few in
    let one = c.with_digit-read.ensures.few in
    record {
      few = omega arith;
      amount = λ m s.
          subst (Stands new.coefficient new.zeros)
          (ap (λ d. decimal_from m (take i units) * 10 + d) c.digit_value.ensures.value
          ∙ sym (decimal_more m units i c.loop-unit-test.true))
          (c.with_digit-read.ensures.amount (decimal_from m (take i units)) (before.amount m s));
    }
