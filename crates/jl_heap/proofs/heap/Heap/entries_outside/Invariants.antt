use Rattle.std.proofs.Common.{◌≡◌, length}
use Rattle.jl_heap.specs.inner.Steps.{without_elements}
use Rattle.jl_heap.proofs.heap.Heap.entries_outside.Given as goal

abbrev pub invariant-loop-names : goal.invariant-loop-names
invariant-loop-names l =
    without_elements l.self l.id.0 l.low l.high l.names ≡ without_elements l.fn.self l.id.0 l.low l.high l.fn.names

abbrev pub decreases-loop-names : goal.decreases-loop-names
decreases-loop-names l = length l.names
