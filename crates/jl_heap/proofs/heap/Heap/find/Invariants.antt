use Rattle.std.proofs.Common.{◌≡◌}
use Rattle.jl_heap.specs.Objects.{find}
use Rattle.jl_heap.proofs.heap.Heap.find.Given as goal

abbrev pub invariant-loop-property : goal.invariant-loop-property
invariant-loop-property l = find l.fn.self l.at.0 l.fn.name ≡ find l.fn.self l.fn.id.0 l.fn.name

abbrev pub decreases-loop-property : goal.decreases-loop-property
decreases-loop-property l = l.at.0
