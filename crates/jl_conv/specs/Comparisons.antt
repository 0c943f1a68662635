-- How values compare (11.8.5, 11.9.3, 11.9.6).
use Rattle.std.specs.Prelude.{Bool, true, false, ◌==◌, Option, Some, None}
use Rattle.std.specs.Option.{option_map}
use Rattle.std.specs.Ordering.{is_eq, is_lt, nat_cmp}
use Rattle.std.specs.Cmp.Lexicographic.{slice_cmp}
use Rattle.std.specs.Str.{bytes_eq}
use Rattle.std.specs.declared.cmp.Ordering.{Ordering}
use Rattle.jl_num.specs.Number.{Number}
use Rattle.jl_num.specs.Order.{order_of}
use Rattle.jl_value.specs.declared.value.Value.{Value}
use Rattle.jl_value.specs.declared.value.Value.TheVariants as values
use Rattle.jl_value.specs.Same.{same_bool}
use Rattle.jl_conv.specs.Numerals.{text_number}
use Rattle.jl_conv.specs.Conversions.{bool_number, number_of_value}

-- equal numbers: NaN equals nothing
abbrev pub is_equal : Option Ordering → Bool
is_equal None = false
is_equal (Some o) = is_eq o

abbrev pub equal_numbers : Number → Number → Bool
equal_numbers a b = is_equal (order_of a b)

-- a === b (11.9.6)
abbrev pub strictly_equal : Value → Value → Bool
strictly_equal values.Undefined values.Undefined = true
strictly_equal values.Null values.Null = true
strictly_equal (values.Bool a) (values.Bool b) = same_bool a b
strictly_equal (values.Num a) (values.Num b) = equal_numbers a b
strictly_equal (values.Text a) (values.Text b) = bytes_eq a b
strictly_equal (values.Obj a) (values.Obj b) = a.0 == b.0
strictly_equal _ _ = false

-- a == b (11.9.3), where neither is an object or both are; none where a number that it asks for is outside
abbrev pub loosely_equal : Value → Value → Option Bool
loosely_equal values.Undefined values.Null = Some true
loosely_equal values.Null values.Undefined = Some true
loosely_equal (values.Num a) (values.Text b) = option_map (λ n. equal_numbers a n) (text_number b)
loosely_equal (values.Text a) (values.Num b) = option_map (λ n. equal_numbers n b) (text_number a)
loosely_equal (values.Bool a) (values.Num b) = Some (equal_numbers (bool_number a) b)
loosely_equal (values.Bool a) (values.Text b) = option_map (λ n. equal_numbers (bool_number a) n) (text_number b)
loosely_equal (values.Num a) (values.Bool b) = Some (equal_numbers a (bool_number b))
loosely_equal (values.Text a) (values.Bool b) = option_map (λ n. equal_numbers n (bool_number b)) (text_number a)
loosely_equal a b = Some (strictly_equal a b)

-- a < b (11.8.5), where neither is an object; None within where a number is NaN
abbrev pub less_number : Option Number → Option Number → Option (Option Bool)
less_number None _ = None
less_number (Some a) None = None
less_number (Some a) (Some b) = Some (option_map is_lt (order_of a b))

abbrev pub less_than : Value → Value → Option (Option Bool)
less_than (values.Text a) (values.Text b) = Some (Some (is_lt (slice_cmp nat_cmp a b)))
less_than a b = less_number (number_of_value a) (number_of_value b)
