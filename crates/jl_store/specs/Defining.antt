-- What becomes of a parameter when the index that is mapped to it has been defined, by what was asked for (10.6,
-- [[DefineOwnProperty]], step 5).
use Rattle.std.specs.Prelude.{codes, false, if◌then◌else◌, true, ◌&&◌, ◌≡◌, Bool, IfSome, IsSome, IsTrue, None}
use Rattle.std.specs.Prelude.{Option, Some, ℕ}
use Rattle.std.specs.Option.{option_map_or}
use Rattle.std.specs.Str.{bytes_eq}
use Rattle.jl_value.specs.Indices.{index_of}
use Rattle.jl_value.specs.Tests.{is_object}
use Rattle.jl_value.specs.declared.object.ObjId.{ObjId}
use Rattle.jl_num.specs.Number.{Number}
use Rattle.jl_value.specs.declared.error_kind.ErrorKind.TheVariants.{RangeError}
use Rattle.jl_value.specs.declared.value.Value.{Value}
use Rattle.jl_value.specs.declared.value.Value.TheVariants as value
use Rattle.jl_conv.specs.Conversions.{number_of_value}
use Rattle.jl_heap.specs.Define.{is_array, is_length, length_name}
use Rattle.jl_heap.specs.Objects.{object_at, Name, Objects}
use Rattle.jl_heap.specs.Property.{is_accessor}
use Rattle.jl_heap.specs.declared.property.Change.{Change}
use Rattle.jl_meaning.specs.Defining.{end_mapping, makes_read_only, set_parameter}
use Rattle.jl_meaning.specs.Parts.{give, ◌>>=◌, Algorithm}
use Rattle.jl_meaning.specs.Store.{Store}
use Rattle.jl_store.specs.Answers.{MakesError}
use Rattle.jl_store.specs.declared.answer.AlgorithmFault.TheVariants as fault
use Rattle.jl_store.specs.declared.answer.Finished.{Finished}
use Rattle.jl_store.specs.declared.answer.Finished.TheVariants as ended
use Rattle.jl_store.specs.declared.defining.Remapping.{Remapping}

abbrev pub end_mapping_where : (ends : Bool) → ObjId → Name → Algorithm (Unit {0})
end_mapping_where ends id x = if ends then end_mapping id (index_of x) else give tt

-- an accessor ends the mapping; a value goes to the parameter, and what becomes read-only ends the mapping too
abbrev pub remap_parameter : ObjId → Name → (accessor : Bool) → Option Value → (read_only : Bool) → ℕ × Name
    → Algorithm (Unit {0})
remap_parameter id x accessor v read_only parameter =
    if accessor then end_mapping id (index_of x)
    else (do
      _ ← set_parameter parameter v
      end_mapping_where read_only id x)

-- what a change makes of the parameter
abbrev pub remapping_of : Change → ℕ × Name → Remapping
remapping_of change parameter = record {
  env = parameter.0;
  parameter = parameter.1;
  accessor = is_accessor change;
  value = change.value;
  read_only = makes_read_only change;
}

abbrev pub remapped_if : ObjId → Name → Option Remapping → Algorithm (Unit {0})
remapped_if id x None = give tt
remapped_if id x (Some r) = remap_parameter id x r.accessor r.value r.read_only (r.env, r.parameter)

-- a value that is given for the length of an array is no object
abbrev pub LengthIsPrimitive : Objects → (address : ℕ) → Name → Change → Type 0
LengthIsPrimitive heap address x change =
    IsTrue (is_array (object_at heap address).class) → IsTrue (bytes_eq x length_name)
    → option_map_or is_object change.value false ≡ false

-- the value that a change gives for the length of an array, if it gives one
abbrev pub length_given : Objects → (address : ℕ) → Name → Change → Option Value
length_given heap address x change =
    if is_array (object_at heap address).class && bytes_eq x length_name then change.value else None

-- a value as a length: the number that it is, where that is a length; else an error is made, or there is no number
-- (15.4.5.1, steps 3.c and 3.d)
abbrev pub IsLengthOf : Value → (from to : Store) → Finished Number → Type 0
IsLengthOf v from to (ended.Gives n) =
    (number_of_value v ≡ Some n) × (is_length (value.Num n) ≡ true) × (to ≡ from)
IsLengthOf v from to (ended.Throws w) =
    IfSome (number_of_value v) (λ n. is_length (value.Num n) ≡ false) × IsSome (number_of_value v)
    × MakesError RangeError (codes "bad array length") from to w
IsLengthOf v from to (ended.Fails f) =
    (number_of_value v ≡ None) × (f ≡ fault.NumberOutside) × (to ≡ from)
