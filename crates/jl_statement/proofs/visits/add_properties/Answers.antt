use Rattle.jl_statement.proofs.Gathered.{properties_more}
use Rattle.jl_statement.proofs.visits.add_properties.Goals as goal

pub loop-named-preserved : goal.loop-named-preserved
loop-named-preserved c =
    properties_more c.args.holder c.loop-named.named-index _ c.loop-named.visits _ c.args.names.now c.named-item.result
    c.in_ok-name.name c.loop-named.invariant c.loop-named-test.true c.named-item.is c.in_ok-name.ensures
    c.in_ok-push.ensures.ok
