-- Changes of what an object has beside its properties.
use Rattle.std.specs.Prelude.{ℕ, false, None, slice_set}
use Rattle.jl_heap.specs.Objects.{Objects, object_at, with_object}
use Rattle.jl_heap.specs.declared.inner.Inner.{Inner}
use Rattle.jl_heap.specs.declared.inner.Inner.TheVariants.{Mapped}

-- the object at a place is extensible no more
abbrev pub without_extensions : Objects → ℕ → Objects
without_extensions heap place = with_object heap place (record (object_at heap place) { extensible = false })

-- an index of an arguments object is mapped to no parameter any more (10.6)
abbrev pub unmapped_inside : Inner → ℕ → Inner
unmapped_inside (Mapped env names) index = Mapped env (slice_set names index None)
unmapped_inside inner index = inner

abbrev pub unmap_argument : Objects → ℕ → ℕ → Objects
unmap_argument heap place index =
    with_object heap place
    (record (object_at heap place) { inner = unmapped_inside (object_at heap place).inner index })
