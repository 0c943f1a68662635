use Rattle.std.proofs.Common.{◌≡◌, map, length}
use Rattle.jl_scope.specs.Scope.{has_loop_label}
use Rattle.jl_scope.specs.inner.Steps.{label_of}
use Rattle.jl_scope.proofs.scope.has_loop_label.Given as goal

abbrev pub invariant-loop-labels : goal.invariant-loop-labels
invariant-loop-labels l = has_loop_label l.name (map label_of l.labels)
    ≡ has_loop_label l.name (map label_of l.fn.labels)

abbrev pub decreases-loop-labels : goal.decreases-loop-labels
decreases-loop-labels l = length l.labels
