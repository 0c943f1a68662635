-- What the rules on the use of objects and functions complain about, rules 11 to 20.
use Rattle.std.specs.Prelude.{ℕ, ◌^◌, ◌-◌, Bool, true, false, List, length, min, not, ◌&&◌, ◌||◌, ◌==◌}
use Rattle.std.specs.Prelude.{nat_lt, codes, count_by}
use Rattle.std.specs.List.{list_any}
use Rattle.std.specs.Str.{bytes_eq}
use Rattle.jl_op.specs.declared.callee.Callee.{Callee}
use Rattle.jl_op.specs.declared.callee.Callee.TheVariants as callees
use Rattle.jl_op.specs.declared.found.Found.{Found}
use Rattle.jl_op.specs.declared.found.Found.TheVariants as found
use Rattle.jl_op.specs.declared.op.Op.{Op}
use Rattle.jl_op.specs.declared.op.Op.TheVariants as ops
use Rattle.jl_value.specs.Builtins.{name_of}
use Rattle.jl_value.specs.Tests.{is_object}
use Rattle.jl_value.specs.declared.value.Seen.{Seen}
use Rattle.jl_value.specs.declared.value.Value.{Value}
use Rattle.jl_analysis.specs.Values.{is_object_at, object_prototype, global_object, is_function, is_array}

-- the look-up came to a data property of a prototype
abbrev pub is_inherited : Found → Bool
is_inherited found.ChainPlain = true
is_inherited _ = false

-- 11, shadow-write: a value that is no function is put on an object under the name of a data property that it inherits
-- (8.12.5)
abbrev pub shadow_write : Op → Bool
shadow_write (ops.PutField base name value found) =
    is_object base.value && is_inherited found && not (is_function value.class)
shadow_write _ = false

-- they are both true or both false
abbrev pub same_way : Bool → Bool → Bool
same_way true by_new = by_new
same_way false by_new = not by_new

-- the operation calls the script's function with this number in this way, by `new` or not
abbrev pub calls : (function : ℕ) → (by_new : Bool) → Op → Bool
calls function by_new (ops.InvokePre callee (callees.Script other params mentions) this args other_by_new) =
    function == other && same_way by_new other_by_new
calls function by_new _ = false

-- 12, mixed-new: a function of the script is called by `new` that was called without it before, or the other way round
abbrev pub mixed_new : (before : List Op) → Op → Bool
mixed_new before (ops.InvokePre callee (callees.Script function params mentions) this args by_new) =
    list_any (calls function (not by_new)) before
mixed_new before _ = false

-- 13, object-prototype-write: a property is put on the object that `Object.prototype` is when a run begins
abbrev pub object_prototype_write : Op → Bool
object_prototype_write (ops.PutField base name value found) = is_object_at base.value object_prototype
object_prototype_write _ = false

-- a property `prototype` of a function
abbrev pub is_prototype_of_function : Seen → List ℕ → Bool
is_prototype_of_function base name = is_function base.class && bytes_eq name (codes "prototype")

-- 14, odd-prototype: a function's `prototype` is set to a value that is no object (13.2.2)
abbrev pub odd_prototype : Op → Bool
odd_prototype (ops.PutField base name value found) =
    is_prototype_of_function base name && not (is_object value.value)
odd_prototype _ = false

-- the operation calls this by `new`
abbrev pub makes_by : Value → Op → Bool
makes_by value (ops.InvokePre callee target this args true) = is_object_at value callee.0
makes_by value _ = false

-- 15, late-prototype: a function's `prototype` is set after it was called by `new`
abbrev pub late_prototype : (before : List Op) → Op → Bool
late_prototype before (ops.PutField base name value found) =
    is_prototype_of_function base name && list_any (makes_by base.value) before
late_prototype before _ = false

-- 16, for-in-array: the object of a `for-in` is an array (12.6.4)
abbrev pub for_in_array : Op → Bool
for_in_array (ops.ForIn object) = is_object object.value && is_array object.class
for_in_array _ = false

-- the function is given arguments that it neither has a parameter for nor can find in `arguments`
abbrev pub leaves_out : Callee → (args : ℕ) → Bool
leaves_out (callees.Script function params mentions) args = nat_lt params args && not mentions
leaves_out (callees.Native builtin) args = false

-- 17, extra-arguments: a function of the script is called with arguments that it can't see
abbrev pub extra_arguments : Op → Bool
extra_arguments (ops.InvokePre callee target this args by_new) = leaves_out target (length args)
extra_arguments _ = false

-- it is the builtin with this path
abbrev pub is_builtin : (path : List ℕ) → Callee → Bool
is_builtin path (callees.Script function params mentions) = false
is_builtin path (callees.Native builtin) = bytes_eq (name_of builtin) path

-- 18, wrapper-made: `String`, `Number` or `Boolean` is called by `new` (15.5.2, 15.6.2, 15.7.2)
abbrev pub wrapper_made : Op → Bool
wrapper_made (ops.InvokePre callee target this args true) =
    is_builtin (codes "String") target || is_builtin (codes "Number") target || is_builtin (codes "Boolean") target
wrapper_made _ = false

-- 19, no-radix: `parseInt` is called without a radix (15.1.2.2)
abbrev pub no_radix : Op → Bool
no_radix (ops.InvokePre callee target this args by_new) = is_builtin (codes "parseInt") target && nat_lt (length args) 2
no_radix _ = false

abbrev pub enters : Op → Bool
enters (ops.FunctionEnter function this args by_new) = true
enters _ = false

abbrev pub leaves : Op → Bool
leaves (ops.FunctionExit function) = true
leaves _ = false

-- how many operations are such, as a number that stands still at the end of its type
abbrev pub so_many : (Op → Bool) → List Op → ℕ
so_many is ops = min (count_by is ops) (2 ^ 64 - 1)

-- 20, global-this: inside a function a property is put on the global object
abbrev pub global_this : (before : List Op) → Op → Bool
global_this before (ops.PutField base name value found) =
    is_object_at base.value global_object && nat_lt (so_many leaves before) (so_many enters before)
global_this before _ = false
