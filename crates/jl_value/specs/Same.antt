-- When two values are the same (9.12).
use Rattle.std.specs.Prelude.{Bool, true, false, Some, None, ◌==◌}
use Rattle.std.specs.Ordering.{int_eq}
use Rattle.std.specs.Str.{bytes_eq}
use Rattle.jl_num.specs.Number.{Number}
use Rattle.jl_value.specs.declared.value.Value.{Value}
use Rattle.jl_value.specs.declared.value.Value.TheVariants as values

-- the same number: NaN is the same as NaN, and there is one zero
abbrev pub same_number : Number → Number → Bool
same_number None None = true
same_number (Some a) (Some b) = int_eq a b
same_number _ _ = false

abbrev pub same_bool : Bool → Bool → Bool
same_bool true true = true
same_bool false false = true
same_bool _ _ = false

-- values of one type, and the same number, the same units, or one object
abbrev pub same_value : Value → Value → Bool
same_value values.Undefined values.Undefined = true
same_value values.Null values.Null = true
same_value (values.Bool a) (values.Bool b) = same_bool a b
same_value (values.Num a) (values.Num b) = same_number a b
same_value (values.Text a) (values.Text b) = bytes_eq a b
same_value (values.Obj a) (values.Obj b) = a.0 == b.0
same_value _ _ = false
