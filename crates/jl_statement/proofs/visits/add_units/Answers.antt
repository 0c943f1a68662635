use Rattle.jl_statement.specs.inner.Visited.{all_seen}
use Rattle.jl_statement.proofs.Gathered.{units_more}
use Rattle.jl_statement.proofs.visits.add_units.Goals as goal

pub loop-index-preserved : goal.loop-index-preserved
loop-index-preserved c =
    units_more c.args.holder c.loop-index.index (all_seen c.args.visits.now) c.loop-index.visits _ c.in_ok-name.name
    c.loop-index.invariant c.in_ok-name.ensures c.in_ok-push.ensures.ok
