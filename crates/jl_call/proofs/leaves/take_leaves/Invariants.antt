use Rattle.std.proofs.Common.{length}
use Rattle.jl_state.specs.Trees.{items_left}
use Rattle.jl_call.specs.inner.Taken.{Takes}
use Rattle.jl_call.proofs.leaves.take_leaves.Given as goal

abbrev pub invariant-loop-e : goal.invariant-loop-e
invariant-loop-e l =
    Takes l.fn.state l.here l.fn.values (items_left l.fn.rest) l.state l.values (items_left l.left)

abbrev pub decreases-loop-e : goal.decreases-loop-e
decreases-loop-e l = length (items_left l.left)
