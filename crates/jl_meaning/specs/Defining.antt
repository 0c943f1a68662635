-- Defining properties (8.12.9, 10.6, 15.4.5.1).
pub use Rattle.jl_heap.specs.Property.{no_change, value_change}
use Rattle.std.specs.Option.{option_map_or}
use Rattle.std.specs.Prelude.{codes, false, if◌then◌else◌, length, not, pos, true, ◌&&◌, Bool, None, Option, Some, ℕ}
use Rattle.std.specs.Str.{bytes_eq}
use Rattle.jl_num.specs.Number.{Number}
use Rattle.jl_value.specs.Indices.{index_of}
use Rattle.jl_value.specs.Same.{same_number}
use Rattle.jl_value.specs.declared.error_kind.ErrorKind.TheVariants.{RangeError}
use Rattle.jl_value.specs.declared.object.ObjId.{ObjId}
use Rattle.jl_value.specs.declared.value.Value.{Value}
use Rattle.jl_value.specs.declared.value.Value.TheVariants as value
use Rattle.jl_heap.specs.Define.{is_array, length_name}
use Rattle.jl_heap.specs.Define as heaps
use Rattle.jl_heap.specs.Objects.{object_at, Name}
use Rattle.jl_heap.specs.Property.{is_accessor}
use Rattle.jl_heap.specs.declared.property.Change.{Change}
use Rattle.jl_heap.specs.declared.property.Defined.{Defined}
use Rattle.jl_heap.specs.declared.property.Defined.TheVariants.{Done, Rejected}
use Rattle.jl_meaning.specs.Changes.{DefineProperty, SetBinding, UnmapIndex}
use Rattle.jl_meaning.specs.Conversions.{to_number, to_uint32}
use Rattle.jl_meaning.specs.Errors.{throw_error}
use Rattle.jl_meaning.specs.Parts.{change_store, give, look, ◌>>=◌, Algorithm}
use Rattle.jl_meaning.specs.Properties.{mapped_parameter}

-- a property that can be written, enumerated and configured (8.12.5, step 6)
abbrev pub plain_change : Value → Change
plain_change v = record (value_change v) { writable = Some true; enumerable = Some true; configurable = Some true }

abbrev pub is_done : Defined → Bool
is_done Done = true
is_done Rejected = false

-- whether a change makes a property read-only
abbrev pub makes_read_only : Change → Bool
makes_read_only change = option_map_or not change.writable false

-- an index, if the name is one, is mapped to no parameter any more
abbrev pub end_mapping : ObjId → Option ℕ → Algorithm (Unit {0})
end_mapping id (Some index) = change_store (UnmapIndex id index)
end_mapping id None = give tt

-- the parameter gets the value that is given, if one is (10.6, [[DefineOwnProperty]], step 5.b.i)
abbrev pub set_parameter : ℕ × Name → Option Value → Algorithm (Unit {0})
set_parameter parameter (Some v) = change_store (SetBinding parameter.0 parameter.1 v)
set_parameter parameter None = give tt

-- what becomes of the parameter that an index is mapped to, when the index has been defined (10.6,
-- [[DefineOwnProperty]], step 5): the mapping ends where the property becomes an accessor or read-only
abbrev pub update_mapping : ObjId → Name → Change → Option (ℕ × Name) → Algorithm (Unit {0})
update_mapping id x change None = give tt
update_mapping id x change (Some parameter) =
    if is_accessor change then end_mapping id (index_of x)
    else (do
      _ ← set_parameter parameter change.value
      if makes_read_only change then end_mapping id (index_of x) else give tt)

abbrev pub update_mapping_if : (done : Bool) → ObjId → Name → Change → Option (ℕ × Name) → Algorithm Bool
update_mapping_if false id x change parameter = give false
update_mapping_if true id x change parameter = do
  _ ← update_mapping id x change parameter
  give true

-- [[DefineOwnProperty]] of a change in which a length of an array is a number already: whether it is done
abbrev pub define_with_number : ObjId → Name → Change → Algorithm Bool
define_with_number id x change = do
  store ← look
  _ ← change_store (DefineProperty id x change)
  update_mapping_if (is_done (heaps.define_own_property store.heap id.0 x change).1) id x change
      (mapped_parameter store id.0 x)

-- a length of an array has to be a whole number from 0 to 2^32 - 1 (15.4.5.1, steps 3.c and 3.d)
abbrev pub length_within : (converted n : Number) → Algorithm Value
length_within converted n =
    if same_number converted n then give (value.Num n) else throw_error RangeError (codes "bad array length")

-- ToUint32 and ToNumber both convert the value (15.4.5.1, steps 3.c and 3.d)
abbrev pub to_length : Value → Algorithm Value
to_length v = do
  count ← to_uint32 v
  n ← to_number v
  length_within (Some (pos count)) n

-- the change with a length as a number, where it gives one to an array
abbrev pub with_length : (of_array : Bool) → Change → Option Value → Algorithm Change
with_length true change (Some v) = do
  length ← to_length v
  give (record change { value = Some length })
with_length _ change _ = give change

-- [[DefineOwnProperty]] (8.12.9, 10.6, 15.4.5.1): whether it is done
unfoldable pub define_own_property : ObjId → Name → Change → Algorithm Bool
define_own_property id x change = do
  store ← look
  converted ← with_length (is_array (object_at store.heap id.0).class && bytes_eq x length_name) change change.value
  define_with_number id x converted
