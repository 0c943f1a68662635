use Rattle.std.proofs.Common.{◌≡◌, ◌≤◌, length, max}
use Rattle.jl_heap.specs.inner.Steps.{reached_over}
use Rattle.jl_heap.proofs.heap.Heap.reachable_length.Given as goal

abbrev pub invariant-loop-names : goal.invariant-loop-names
invariant-loop-names l = record {
  so_far : max l.end (reached_over l.self l.id.0 l.low l.high l.names)
      ≡ reached_over l.self l.id.0 l.low l.high l.fn.names;
  above : l.low ≤ l.end;
}

abbrev pub decreases-loop-names : goal.decreases-loop-names
decreases-loop-names l = length l.names
