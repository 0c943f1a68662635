use Rattle.jl_op.specs.KindSets.{is_member}
use Rattle.jl_op.specs.declared.kind.OpKind.TheVariants.{ScriptEnter}
use Rattle.jl_analysis.proofs.KindsAdded.{one_more_kind}
use Rattle.jl_analysis.proofs.kinds_needed.with_all.Goals as goal

pub loop-kind-preserved : goal.loop-kind-preserved
loop-kind-preserved c =
    one_more_kind (is_member c.args.kinds) (is_member c.loop-kind.all) (is_member c.with-all.result) c.args.more.now
    c.loop-kind.kind-index ScriptEnter c.loop-kind-test.true c.with-all.ensures.added c.with-all.ensures.others
    c.loop-kind.invariant
