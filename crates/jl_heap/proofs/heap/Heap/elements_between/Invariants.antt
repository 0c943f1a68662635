use Rattle.std.proofs.Common.{ℕ, ◌<◌, ◌≤◌}
use Rattle.std.specs.Prelude.{IsSome, IsTrue}
use Rattle.jl_num.specs.Digits.{digits_of}
use Rattle.jl_heap.specs.Objects.{own}
use Rattle.jl_heap.specs.inner.Steps.{is_listed}
use Rattle.jl_heap.proofs.heap.Heap.elements_between.Given as goal

abbrev pub invariant-loop-index : goal.invariant-loop-index
invariant-loop-index l = (i : ℕ) → l.low ≤ i → i < l.index → IsSome (own l.self l.id.0 (digits_of 10 i))
    → IsTrue (is_listed (digits_of 10 i) l.found)
