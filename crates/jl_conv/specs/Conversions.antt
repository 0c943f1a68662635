-- What values convert to (9.2, 9.3, 9.8), and the names of their types (11.4.3).
use Rattle.std.specs.Prelude.{ℕ, pos, Bool, true, false, not, List, [], ◌∷◌, codes, Option, Some, None, if◌then◌else◌}
use Rattle.std.specs.Ordering.{int_eq}
use Rattle.jl_num.specs.Number.{Number}
use Rattle.jl_num.specs.Digits.{number_text}
use Rattle.jl_value.specs.declared.value.Value.{Value}
use Rattle.jl_value.specs.declared.value.Value.TheVariants as values
use Rattle.jl_conv.specs.Numerals.{text_number}

-- ToBoolean (9.2): of numbers 0 and NaN are false, and of strings the empty one
abbrev pub number_truth : Number → Bool
number_truth None = false
number_truth (Some z) = not (int_eq z (pos 0))

abbrev pub text_truth : List ℕ → Bool
text_truth [] = false
text_truth (u ∷ us) = true

abbrev pub truth_of : Value → Bool
truth_of values.Undefined = false
truth_of values.Null = false
truth_of (values.Bool b) = b
truth_of (values.Num n) = number_truth n
truth_of (values.Text t) = text_truth t
truth_of (values.Obj o) = true

-- what `typeof` gives (11.4.3, table 20), for an object that can be called or not
abbrev pub type_text : Value → Bool → List ℕ
type_text values.Undefined callable = codes "undefined"
type_text values.Null callable = codes "object"
type_text (values.Bool b) callable = codes "boolean"
type_text (values.Num n) callable = codes "number"
type_text (values.Text t) callable = codes "string"
type_text (values.Obj o) callable = if callable then codes "function" else codes "object"

-- ToNumber (9.3) of a value that is no object; none where it is outside
abbrev pub bool_number : Bool → Number
bool_number b = if b then Some (pos 1) else Some (pos 0)

abbrev pub number_of_value : Value → Option Number
number_of_value values.Undefined = Some None
number_of_value values.Null = Some (Some (pos 0))
number_of_value (values.Bool b) = Some (bool_number b)
number_of_value (values.Num n) = Some n
number_of_value (values.Text t) = text_number t
number_of_value (values.Obj o) = None

-- ToString (9.8) of a value that is no object
abbrev pub text_of_value : Value → List ℕ
text_of_value values.Undefined = codes "undefined"
text_of_value values.Null = codes "null"
text_of_value (values.Bool b) = if b then codes "true" else codes "false"
text_of_value (values.Num n) = number_text n 10
text_of_value (values.Text t) = t
text_of_value (values.Obj o) = []
