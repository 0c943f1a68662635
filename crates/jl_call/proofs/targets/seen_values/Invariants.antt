use Rattle.std.proofs.Common.{◌≡◌, map, take}
use Rattle.jl_heap.specs.Describe.{seen_of}
use Rattle.jl_call.proofs.targets.seen_values.Given as goal

abbrev pub invariant-loop-value : goal.invariant-loop-value
invariant-loop-value l = l.seen ≡ map (seen_of l.store.heap) (take l.value-index l.items)
