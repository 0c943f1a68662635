-- What rules ask of a value that an operation saw.
use Rattle.std.specs.Prelude.{ℕ, Bool, true, false, None, ◌==◌}
use Rattle.jl_value.specs.declared.object.Class.{Class}
use Rattle.jl_value.specs.declared.object.Class.TheVariants as classes
use Rattle.jl_value.specs.declared.value.Value.{Value}
use Rattle.jl_value.specs.declared.value.Value.TheVariants as values

abbrev pub is_number : Value → Bool
is_number (values.Num n) = true
is_number _ = false

-- it is the number NaN
abbrev pub is_nan : Value → Bool
is_nan (values.Num None) = true
is_nan _ = false

abbrev pub is_text : Value → Bool
is_text (values.Text units) = true
is_text _ = false

-- they are values of one type (clause 8)
abbrev pub are_of_one_type : Value → Value → Bool
are_of_one_type values.Undefined values.Undefined = true
are_of_one_type values.Null values.Null = true
are_of_one_type (values.Bool a) (values.Bool b) = true
are_of_one_type (values.Num a) (values.Num b) = true
are_of_one_type (values.Text a) (values.Text b) = true
are_of_one_type (values.Obj a) (values.Obj b) = true
are_of_one_type _ _ = false

-- it is the object at this place
abbrev pub is_object_at : Value → ℕ → Bool
is_object_at (values.Obj id) place = id.0 == place
is_object_at _ place = false

-- the objects that `Object.prototype` and the global object are when a run begins (15.2.4, 15.1)
abbrev pub object_prototype : ℕ
object_prototype = 0

abbrev pub global_object : ℕ
global_object = 1

-- the class is that of objects that stand for a primitive value (15.5 to 15.7)
abbrev pub is_wrapper : Class → Bool
is_wrapper classes.Boolean = true
is_wrapper classes.Number = true
is_wrapper classes.String = true
is_wrapper _ = false

abbrev pub is_function : Class → Bool
is_function classes.Function = true
is_function _ = false

abbrev pub is_array : Class → Bool
is_array classes.Array = true
is_array _ = false
