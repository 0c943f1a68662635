-- The objects that a run begins with and that algorithms name.
pub use Rattle.jl_value.specs.Intrinsics.{array_prototype, boolean_prototype, error_prototype, function_prototype}
pub use Rattle.jl_value.specs.Intrinsics.{global_object, number_prototype, object_prototype, string_prototype}
use Rattle.jl_value.specs.BuiltinPlaces.{place_of_builtin}
use Rattle.jl_value.specs.Intrinsics.{range_error_prototype, reference_error_prototype, type_error_prototype}
use Rattle.jl_value.specs.declared.builtin.Builtin.TheVariants.{Function}
use Rattle.jl_value.specs.declared.builtin_groups.FunctionBuiltin.TheVariants.{Thrower}
use Rattle.jl_value.specs.declared.error_kind.ErrorKind.{ErrorKind}
use Rattle.jl_value.specs.declared.error_kind.ErrorKind.TheVariants.{RangeError, ReferenceError, TypeError}
use Rattle.jl_value.specs.declared.object.ObjId.{ObjId}

-- the prototype of a kind of errors (15.11.7.7)
abbrev pub prototype_of_error : ErrorKind → ObjId
prototype_of_error RangeError = range_error_prototype
prototype_of_error ReferenceError = reference_error_prototype
prototype_of_error TypeError = type_error_prototype

-- the function that throws a TypeError (13.2.3)
abbrev pub thrower : ObjId
thrower = place_of_builtin (Function Thrower)
