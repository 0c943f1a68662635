use Rattle.std.proofs.Common.{◌≡◌, length}
use Rattle.jl_scope.specs.Names.{among}
use Rattle.jl_state.specs.Turns.{labels_seen}
use Rattle.jl_state.proofs.handlers.is_among.Given as goal

abbrev pub invariant-loop-labels : goal.invariant-loop-labels
invariant-loop-labels l = among l.x (labels_seen l.labels) ≡ among l.x (labels_seen l.fn.labels)

abbrev pub decreases-loop-labels : goal.decreases-loop-labels
decreases-loop-labels l = length l.labels
