use Rattle.jl_op.proofs.Spacing.{all_seen}
use Rattle.jl_op.proofs.line.Line.all_seen.Goals as goal

pub loop-value-preserved : goal.loop-value-preserved
loop-value-preserved c =
    all_seen c.args.self c.loop-value.line c.in_ok-line.line c.args.values.now c.value-item.result
    c.loop-value.value-index
    c.loop-value-test.true c.value-item.is c.loop-value.invariant c.in_ok-line.ensures
