use Rattle.std.proofs.Common.{arith}
use Rattle.jl_text.proofs.PeriodLemmas.{IsGreatest-kept}
use Rattle.jl_text.proofs.period.greatest_suffix.Goals as goal
use Rattle.jl_text.proofs.period.greatest_suffix.Goals.{else-start-end-via-then-start-end+else-at}
use Rattle.jl_text.proofs.period.greatest_suffix.Goals.{else-start-end-via-else-start-end}

pub next_period-period-requires-clause-greatest : goal.next_period-period-requires-clause-greatest
next_period-period-requires-clause-greatest g c =
    IsGreatest-kept _ _ _ _ c.loop-end.invariant.1 c.loop-end.invariant.2 (λ here. elim c.else-start-end.branch [
      | else-start-end-via-then-start-end+else-at w ↦
          omega (arith, w.if-at.false, w.at.ensures, w.at-then-start-end.ensures)
      | else-start-end-via-else-start-end w ↦ omega (arith, here, w.if-start-end.false)
    ])

pub loop-end-preserved : goal.loop-end-preserved
loop-end-preserved g c = (
  omega (arith, c.loop-end-test.true, c.len.ensures),
  c.next_period-period.ensures,
  IsGreatest-kept _ _ _ _ c.loop-end.invariant.1 c.loop-end.invariant.2 (λ here. elim c.else-start-end.branch [
    | else-start-end-via-then-start-end+else-at w ↦
        omega (arith, w.if-at.false, w.at.ensures, w.at-then-start-end.ensures)
    | else-start-end-via-else-start-end w ↦ omega (arith, here, w.if-start-end.false)
  ]),
)
