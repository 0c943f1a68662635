-- How the parts of a heap are seen as its objects.
use Rattle.std.specs.Prelude.{◌≡◌, ℕ, suc, List, [], ◌∷◌, Option, None, Some}
use Rattle.jl_props.specs.declared.entries.Entry.{Entry}
use Rattle.jl_heap.specs.Objects.{Object, absent_object}
use Rattle.jl_heap.specs.declared.header.Header.{Header}
use Rattle.jl_heap.specs.declared.property.Prop.{Prop}

-- an object of its header and its properties
abbrev pub object_of : Header → List (Entry Prop) → Object
object_of header properties = record {
  class = header.class;
  proto = header.proto;
  extensible = header.extensible;
  inner = header.inner;
  properties = properties;
}

-- the objects of these headers, where that of place k has the properties that are given for k
abbrev pub objects_of : List Header → (ℕ → List (Entry Prop)) → List Object
objects_of [] properties = []
objects_of (h ∷ hs) properties = object_of h (properties 0) ∷ objects_of hs (λ k. properties (suc k))

-- an object has this header, or is nobody where there is none
abbrev pub HasHeader : Object → Option Header → Type 0
HasHeader object None = object ≡ absent_object
HasHeader object (Some header) = object ≡ object_of header object.properties
