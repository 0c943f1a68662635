-- Objects made (8.6.2, 15.4.5.2).
use Rattle.std.specs.Prelude.{nat_lt, pos, true, false, [], ◌∷◌, ◌++◌, length, Option, None, Some, if◌then◌else◌}
use Rattle.jl_value.specs.declared.object.Class.{Class}
use Rattle.jl_value.specs.declared.object.ObjId.{ObjId}
use Rattle.jl_value.specs.declared.value.Value.TheVariants as value
use Rattle.jl_heap.specs.Define.{is_array, length_name, with_new_property}
use Rattle.jl_heap.specs.Objects.{Objects}
use Rattle.jl_heap.specs.declared.inner.Inner.{Inner}
use Rattle.jl_heap.specs.declared.property.Prop.{Prop}
use Rattle.jl_heap.specs.declared.property.Prop.TheVariants.{Plain}

-- the prototype, if an object is there
abbrev pub proto_there : Objects → Option ObjId → Option ObjId
proto_there heap None = None
proto_there heap (Some proto) = if nat_lt proto.0 (length heap.objects) then Some proto else None

-- the property `length` that an array is made with
abbrev pub first_length : Prop
first_length = Plain (value.Num (Some (pos 0))) true false false

-- all objects and one more, without properties, at the next place
abbrev pub with_bare_object : Objects → Class → Option ObjId → Inner → Objects
with_bare_object heap class proto inner = record heap {
  objects = heap.objects ++ record {
    class = class;
    proto = proto_there heap proto;
    extensible = true;
    inner = inner;
    properties = [];
  } ∷ [];
}

-- the same, where an array has its property `length`
abbrev pub with_new_object : Objects → Class → Option ObjId → Inner → Objects
with_new_object heap class proto inner =
    let more = with_bare_object heap class proto inner in
    if is_array class then with_new_property more (length heap.objects) length_name first_length else more
