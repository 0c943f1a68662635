-- The length of an array.
use Rattle.std.specs.Prelude.{◌&&◌, Bool}
use Rattle.std.specs.Str.{bytes_eq}
use Rattle.jl_value.specs.declared.object.ObjId.{ObjId}
use Rattle.jl_heap.specs.Define.{is_array, length_name}
use Rattle.jl_heap.specs.Objects.{object_at, Name}
use Rattle.jl_meaning.specs.Store.{Store}

abbrev pub is_array_length : Store → ObjId → Name → Bool
is_array_length store id x = is_array (object_at store.heap id.0).class && bytes_eq x length_name
