-- Values that are seen among the same objects.
use Rattle.std.proofs.Common.{List, [], ◌∷◌, map, refl}
use Rattle.std.specs.List.{AllByRecursion}
use Rattle.jl_value.specs.declared.value.Value.{Value}
use Rattle.jl_heap.specs.Describe.{seen_of}
use Rattle.jl_heap.specs.Objects.{Objects}
use Rattle.jl_operation_rows.specs.Seeing.{IsSeen}

pub all_seen : (heap : Objects) (vs : List Value) → AllByRecursion IsSeen (map (seen_of heap) vs)
all_seen heap [] = tt
all_seen heap (v ∷ vs) = ((heap, refl), all_seen heap vs)

pub one_seen : (heap : Objects) (v : Value) → AllByRecursion IsSeen (seen_of heap v ∷ [])
one_seen heap v = ((heap, refl), tt)

pub two_seen : (heap : Objects) (v w : Value) → AllByRecursion IsSeen (seen_of heap v ∷ seen_of heap w ∷ [])
two_seen heap v w = ((heap, refl), one_seen heap w)

pub three_seen : (heap : Objects) (v w x : Value)
    → AllByRecursion IsSeen (seen_of heap v ∷ seen_of heap w ∷ seen_of heap x ∷ [])
three_seen heap v w x = ((heap, refl), two_seen heap w x)
