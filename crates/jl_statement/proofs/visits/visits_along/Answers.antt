use Rattle.std.proofs.Common.{sym}
use Rattle.jl_statement.proofs.Gathered.{gathered_last, gathered_next}
use Rattle.jl_statement.proofs.visits.visits_along.Goals as goal

pub loop-visits-preserved : goal.loop-visits-preserved
loop-visits-preserved c =
    gathered_next c.args.store.now.heap c.proto_of-proto.ensures.older c.loop-visits.visits _ c.loop-visits.at.0
    c.in-Some.next _ c.loop-visits.invariant c.in_ok-add_own.ensures (sym c.in-Some.ensures.value)

pub returns-in-None : goal.returns-in-None
returns-in-None c =
    gathered_last c.args.store.now.heap c.proto_of-proto.ensures.older c.loop-visits.visits _ c.loop-visits.at.0 _
    c.loop-visits.invariant c.in_ok-add_own.ensures (sym c.in-None.ensures.value)
