-- Builtins that are objects when a run begins: all but `bound`.
use Rattle.std.proofs.Common.{◌≡◌, ◌∙◌, ap, false, refl, sym, true, Bool, None, Option, Some}
use Rattle.std.specs.List.{list_all}
use Rattle.std.specs.Prelude.{◌≢◌}
use Rattle.jl_value.specs.BuiltinPlaces.{bound, place_of_builtin}
use Rattle.jl_value.specs.Builtins.{array_entry, boolean_entry, entry_of, error_entry, function_entry, global_entry}
use Rattle.jl_value.specs.Builtins.{left_out_string_method_entry, math_entry, number_entry, object_entry, string_entry}
use Rattle.jl_value.specs.Builtins.{string_method_entry}
use Rattle.jl_value.specs.declared.builtin.Builtin.{Builtin}
use Rattle.jl_value.specs.declared.builtin.Builtin.TheVariants as builtin
use Rattle.jl_value.specs.declared.builtin.Holder.{Holder}
use Rattle.jl_value.specs.declared.builtin.Holder.TheVariants as holder
use Rattle.jl_value.specs.declared.builtin_groups.ArrayBuiltin.{ArrayBuiltin}
use Rattle.jl_value.specs.declared.builtin_groups.ArrayBuiltin.TheVariants as array_builtin
use Rattle.jl_value.specs.declared.builtin_groups.BooleanBuiltin.{BooleanBuiltin}
use Rattle.jl_value.specs.declared.builtin_groups.BooleanBuiltin.TheVariants as boolean_builtin
use Rattle.jl_value.specs.declared.builtin_groups.ErrorBuiltin.{ErrorBuiltin}
use Rattle.jl_value.specs.declared.builtin_groups.ErrorBuiltin.TheVariants as error_builtin
use Rattle.jl_value.specs.declared.builtin_groups.FunctionBuiltin.{FunctionBuiltin}
use Rattle.jl_value.specs.declared.builtin_groups.FunctionBuiltin.TheVariants as function_builtin
use Rattle.jl_value.specs.declared.builtin_groups.GlobalBuiltin.{GlobalBuiltin}
use Rattle.jl_value.specs.declared.builtin_groups.GlobalBuiltin.TheVariants as global_builtin
use Rattle.jl_value.specs.declared.builtin_groups.LeftOutStringMethod.{LeftOutStringMethod}
use Rattle.jl_value.specs.declared.builtin_groups.LeftOutStringMethod.TheVariants as left_out_string_method
use Rattle.jl_value.specs.declared.builtin_groups.MathBuiltin.{MathBuiltin}
use Rattle.jl_value.specs.declared.builtin_groups.MathBuiltin.TheVariants as math_builtin
use Rattle.jl_value.specs.declared.builtin_groups.NumberBuiltin.{NumberBuiltin}
use Rattle.jl_value.specs.declared.builtin_groups.NumberBuiltin.TheVariants as number_builtin
use Rattle.jl_value.specs.declared.builtin_groups.ObjectBuiltin.{ObjectBuiltin}
use Rattle.jl_value.specs.declared.builtin_groups.ObjectBuiltin.TheVariants as object_builtin
use Rattle.jl_value.specs.declared.builtin_groups.StringBuiltin.{StringBuiltin}
use Rattle.jl_value.specs.declared.builtin_groups.StringBuiltin.TheVariants as string_builtin
use Rattle.jl_value.specs.declared.builtin_groups.StringMethod.{StringMethod}
use Rattle.jl_value.specs.declared.builtin_groups.StringMethod.TheVariants as string_method
use Rattle.jl_value.specs.declared.object.ObjId.{ObjId}
use Rattle.jl_meaning.specs.Realm.{has_function_object, holds}
use Rattle.jl_realm.specs.inner.Steps.{closing_step, functions_step, has_place, own_step, prototype_step, step_fits}
use Rattle.jl_realm.specs.inner.Steps.{steps_for}

pub placed : (b : Builtin) → has_place b ≡ true → b ≢ bound
placed b is same = let no : true ≡ false = sym is ∙ ap has_place same in cc

pub held_placed : (id : ObjId) (b : Builtin) → holds id (entry_of b).holder ≡ true → has_place b ≡ true
unfolding entry_of
held_placed id (builtin.Function function_builtin.Bound) held = held
held_placed id b held = refl

pub there_placed : (b : Builtin) → has_function_object b ≡ true → has_place b ≡ true
there_placed (builtin.Function function_builtin.Bound) there = there
there_placed b there = refl

-- nothing is a property of what `bind` makes

abbrev is_placed : Holder → Bool
is_placed (holder.Builtin b) = has_place b
is_placed h = true

by_object : (b : ObjectBuiltin) → is_placed (object_entry b).holder ≡ true
by_object object_builtin.Constructor = refl
by_object b = refl

by_function : (b : FunctionBuiltin) → is_placed (function_entry b).holder ≡ true
by_function function_builtin.Constructor = refl
by_function b = refl

by_array : (b : ArrayBuiltin) → is_placed (array_entry b).holder ≡ true
by_array array_builtin.Constructor = refl
by_array b = refl

by_string : (b : StringBuiltin) → is_placed (string_entry b).holder ≡ true
by_string string_builtin.Constructor = refl
by_string b = refl

by_string_method : (m : StringMethod) → is_placed (string_method_entry m).holder ≡ true
by_string_method string_method.CharAt = refl
by_string_method m = refl

by_left_out_string_method : (m : LeftOutStringMethod) → is_placed (left_out_string_method_entry m).holder ≡ true
by_left_out_string_method left_out_string_method.Replace = refl
by_left_out_string_method m = refl

by_global : (b : GlobalBuiltin) → is_placed (global_entry b).holder ≡ true
by_global global_builtin.Print = refl
by_global b = refl

by_number : (b : NumberBuiltin) → is_placed (number_entry b).holder ≡ true
by_number number_builtin.Constructor = refl
by_number b = refl

by_boolean : (b : BooleanBuiltin) → is_placed (boolean_entry b).holder ≡ true
by_boolean boolean_builtin.Constructor = refl
by_boolean b = refl

by_error : (b : ErrorBuiltin) → is_placed (error_entry b).holder ≡ true
by_error error_builtin.Error = refl
by_error b = refl

by_math : (b : MathBuiltin) → is_placed (math_entry b).holder ≡ true
by_math math_builtin.Abs = refl
by_math b = refl

holder_placed : (b : Builtin) → is_placed (entry_of b).holder ≡ true
unfolding entry_of
holder_placed (builtin.Object b) = by_object b
holder_placed (builtin.Function b) = by_function b
holder_placed (builtin.Array b) = by_array b
holder_placed (builtin.String b) = by_string b
holder_placed (builtin.StringMethod m) = by_string_method m
holder_placed (builtin.LeftOutStringMethod m) = by_left_out_string_method m
holder_placed (builtin.Global b) = by_global b
holder_placed (builtin.Number b) = by_number b
holder_placed (builtin.Boolean b) = by_boolean b
holder_placed (builtin.Error b) = by_error b
holder_placed (builtin.Math b) = by_math b

pub constructor_placed : (b c : Builtin) → (entry_of b).holder ≡ holder.Builtin c → c ≢ bound
constructor_placed b c is = placed c (ap is_placed (sym is) ∙ holder_placed b)

-- what makes the object of a builtin names no other builtin

own_fits : (b : Builtin) (at : ObjId) → step_fits (own_step b at) ≡ true
own_fits (builtin.Number number_builtin.Constructor) at = refl
own_fits b at = refl

prototype_fits : (prototype : Option ObjId) (at : ObjId) → step_fits (prototype_step prototype at) ≡ true
prototype_fits (Some id) at = refl
prototype_fits None at = refl

functions_fit : (prototype : Option ObjId) (at : ObjId) → step_fits (functions_step prototype at) ≡ true
functions_fit (Some id) at = refl
functions_fit None at = refl

closing_fits : (b : Builtin) (at : ObjId) → step_fits (closing_step b at) ≡ true
closing_fits (builtin.Function function_builtin.Thrower) at = refl
closing_fits b at = refl

pub steps_fit : (b : Builtin) → list_all step_fits (steps_for b) ≡ true
steps_fit b =
    let at = place_of_builtin b in
    let prototype = (entry_of b).prototype in
    rw (own_fits b at, prototype_fits prototype at, functions_fit prototype at, closing_fits b at) refl
