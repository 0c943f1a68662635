use Rattle.std.proofs.Common.{◌≡◌, ◌++◌}
use Rattle.jl_meaning.specs.forms.Loops.{visits_within}
use Rattle.jl_statement.specs.inner.Visited.{all_seen}
use Rattle.jl_statement.proofs.visits.visits_along.Given as goal

abbrev pub invariant-loop-visits : goal.invariant-loop-visits
invariant-loop-visits l =
    all_seen l.visits ++ visits_within l.at.0 l.store.heap l.at.0 ≡ visits_within l.fn.id.0 l.store.heap l.fn.id.0

abbrev pub decreases-loop-visits : goal.decreases-loop-visits
decreases-loop-visits l = l.at.0
