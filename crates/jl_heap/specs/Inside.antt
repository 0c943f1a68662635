-- What a heap is seen as, and what its parts keep to.
use Rattle.std.specs.Prelude.{◌≡◌, ℕ, ◌≤◌, Bool, true, false, not, ◌||◌, nat_lt, IsTrue}
use Rattle.std.specs.Prelude.{length, slice_get, Option, None, Some, is_some}
use Rattle.std.specs.Option.{option_map_or}
use Rattle.std.specs.Str.{bytes_eq}
use Rattle.jl_props.specs.Store.{entries_of}
use Rattle.jl_value.specs.declared.object.ObjId.{ObjId}
use Rattle.jl_heap.specs.Define.{is_array, length_name}
use Rattle.jl_heap.specs.Objects.{Objects}
use Rattle.jl_heap.specs.View.{objects_of}
use Rattle.jl_heap.specs.declared.header.Header.{Header}
use Rattle.jl_heap.specs.declared.heap.Heap.TheInside.{Inside}

abbrev pub objects_inside : Inside → Objects
objects_inside a =
    record { objects = objects_of a.headers (entries_of a.properties); next = a.properties.next }

-- a prototype stands at a smaller place
abbrev pub is_older : ℕ → Option ObjId → Bool
is_older place None = true
is_older place (Some proto) = nat_lt proto.0 place

abbrev pub is_in_order : ℕ → Option Header → Bool
is_in_order place None = true
is_in_order place (Some header) = is_older place header.proto

abbrev pub is_array_header : Option Header → Bool
is_array_header None = false
is_array_header (Some header) = is_array header.class

pub record IsKept (a : Inside) : Type 0 where
  pub older : (k : ℕ) → IsTrue (is_in_order k (slice_get a.headers k))
  pub none_past : (k : ℕ) → length a.headers ≤ k → length (entries_of a.properties k) ≡ 0
  -- where an array is, the name `length` is at hand
  pub named : (k : ℕ) → IsTrue (not (is_array_header (slice_get a.headers k)) || is_some a.length_name)
  pub right : IsTrue (option_map_or (λ name. bytes_eq name length_name) a.length_name true)
