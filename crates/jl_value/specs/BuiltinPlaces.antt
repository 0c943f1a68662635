-- The rows of builtins in their table, and the objects that they are when a run begins.
use Rattle.std.specs.Option.{unwrap_or}
use Rattle.std.specs.Prelude.{ℕ, Bool, ◌+◌, ◌-◌, nat_lt, if◌then◌else◌, position}
use Rattle.std.specs.Str.{bytes_eq}
use Rattle.jl_value.specs.Builtins.{builtins, name_of}
use Rattle.jl_value.specs.Intrinsics.{function_prototype, intrinsic_count}
use Rattle.jl_value.specs.declared.builtin.Builtin.{Builtin}
use Rattle.jl_value.specs.declared.builtin.Builtin.TheVariants.{Function}
use Rattle.jl_value.specs.declared.builtin_groups.FunctionBuiltin.TheVariants as function_builtin
use Rattle.jl_value.specs.declared.object.ObjId.{ObjId}

abbrev has_name_of : Builtin → Builtin → Bool
has_name_of b other = bytes_eq (name_of other) (name_of b)

-- a builtin's row is its place in their order, from 0
unfoldable pub row_of : Builtin → ℕ
row_of b = unwrap_or (position (has_name_of b) builtins) 0

-- two builtins are no function of their own behind the first objects: `Function.prototype` is one of these, and `bound`
-- stands for what `bind` makes later
abbrev pub prototype : Builtin
prototype = Function function_builtin.Prototype

abbrev pub bound : Builtin
bound = Function function_builtin.Bound

-- the address of the object in a row: the first objects come first, and then the functions in their order
unfoldable pub place_of_row : (row : ℕ) → ObjId
place_of_row row = record {
  0 = if nat_lt (row_of bound) row then (row + intrinsic_count) - 2
      else (if nat_lt (row_of prototype) row then (row + intrinsic_count) - 1
      else row + intrinsic_count);
}

-- the object of a builtin other than `bound`
abbrev pub place_of_builtin : Builtin → ObjId
place_of_builtin (Function function_builtin.Prototype) = function_prototype
place_of_builtin b = place_of_row (row_of b)
