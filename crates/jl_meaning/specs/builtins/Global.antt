-- The functions of the global object (15.1.2), and printing.
use Rattle.std.specs.Int.{is_in_range}
use Rattle.std.specs.Prelude.{[], false, if◌then◌else◌, is_none, nat_lt, negsuc, not, pos, true, ◌&&◌, ◌*◌, ◌++◌, ◌+◌}
use Rattle.std.specs.Prelude.{◌-◌, ◌==◌, ◌∷◌, Bool, List, None, Option, Some, ℕ, ℤ}
use Rattle.jl_num.specs.Arithmetic.{number_of}
use Rattle.jl_num.specs.Bits.{int32_of}
use Rattle.jl_num.specs.Number.{Number}
use Rattle.jl_text.specs.Encoding.{bytes_of}
use Rattle.jl_token.specs.Characters.{is_digit}
use Rattle.jl_value.specs.declared.builtin_groups.GlobalBuiltin.{GlobalBuiltin}
use Rattle.jl_value.specs.declared.builtin_groups.GlobalBuiltin.TheVariants as global_builtin
use Rattle.jl_value.specs.declared.value.Value.{Value}
use Rattle.jl_value.specs.declared.value.Value.TheVariants as value
use Rattle.jl_conv.specs.Numerals.{is_hexadecimal_letter, with_sign, without_front}
use Rattle.jl_effects.specs.Effects.{Print, Step}
use Rattle.jl_meaning.specs.Conversions.{to_number, to_string}
use Rattle.jl_meaning.specs.Operators.{give_number}
use Rattle.jl_meaning.specs.Parts.{give, ◌>>=◌, Algorithm, Call}
use Rattle.jl_meaning.specs.Relations.{give_truth}
use Rattle.jl_meaning.specs.builtins.Arguments.{argument}

-- a line is printed, in UTF-8
abbrev pub print_line : List ℕ → Algorithm Value
print_line units = Print (bytes_of units) (give value.Undefined)

-- each of these as a string after what the line has so far and a space, one a turn
abbrev pub print_others : (line : List ℕ) → List Value → Algorithm Value
print_others line [] = print_line line
print_others line (v ∷ vs) = Step do
  units ← to_string v
  print_others (line ++ 32 ∷ units) vs

abbrev pub print_all : List Value → Algorithm Value
print_all [] = print_line []
print_all (v ∷ vs) = Step do
  units ← to_string v
  print_others units vs

-- print(..) and console.log(..): the arguments as strings, with a space between each two
abbrev pub print_call : Call → Algorithm Value
print_call c = print_all c.args

-- the value of a unit as a digit; one that is no digit has 36
abbrev pub digit_of : ℕ → ℕ
digit_of u =
    if is_digit u then u - 48
    else (if is_in_range 97 122 u then u - 87
    else (if is_in_range 65 90 u then u - 55 else 36))

-- the digits in a radix that stand in front (15.1.2.2, step 11)
abbrev pub digits_in : (radix : ℕ) → List ℕ → List ℕ
digits_in radix [] = []
digits_in radix (u ∷ us) = if nat_lt (digit_of u) radix then digit_of u ∷ digits_in radix us else []

-- the number that digits in a radix write, going on from one (step 13)
abbrev pub whole_from : (radix n : ℕ) → List ℕ → ℕ
whole_from radix n [] = n
whole_from radix n (d ∷ ds) = whole_from radix (n * radix + d) ds

-- steps 12 to 15: no digits write NaN
abbrev pub number_of_digits : (negative : Bool) → (radix : ℕ) → (digits : List ℕ) → Option Number
number_of_digits negative radix [] = Some None
number_of_digits negative radix (d ∷ ds) = number_of (with_sign negative (whole_from radix 0 (d ∷ ds)))

abbrev pub parse_in_radix : (negative : Bool) → (radix : ℕ) → List ℕ → Option Number
parse_in_radix negative radix units = number_of_digits negative radix (digits_in radix units)

-- what stands after a `0x` in front, if it is there (step 10)
abbrev pub after_hex_prefix : List ℕ → Option (List ℕ)
after_hex_prefix (u ∷ x ∷ us) = if u == 48 && is_hexadecimal_letter x then Some us else None
after_hex_prefix _ = None

-- in radix 16 after such a prefix, and else in this one
abbrev pub parse_after_prefix : (negative : Bool) → (radix : ℕ) → List ℕ → Option (List ℕ) → Option Number
parse_after_prefix negative radix units (Some us) = parse_in_radix negative 16 us
parse_after_prefix negative radix units None = parse_in_radix negative radix units

-- steps 7 to 15: of the radixes 0 stands for 10, and it and 16 allow the prefix
abbrev pub parse_after_sign : (negative : Bool) → (radix : ℤ) → List ℕ → Option Number
parse_after_sign negative (negsuc r) units = Some None
parse_after_sign negative (pos r) units =
    if r == 0 then parse_after_prefix negative 10 units (after_hex_prefix units)
    else (if r == 16 then parse_after_prefix negative 16 units (after_hex_prefix units)
    else (if is_in_range 2 36 r then parse_in_radix negative r units
    else Some None))

-- steps 3 to 5: a `-` or `+` in front
abbrev pub parse_signed : (radix : ℤ) → List ℕ → Option Number
parse_signed radix [] = Some None
parse_signed radix (u ∷ us) =
    if u == 45 then parse_after_sign true radix us
    else (if u == 43 then parse_after_sign false radix us
    else parse_after_sign false radix (u ∷ us))

-- parseInt(string, radix) (15.1.2.2)
abbrev pub parse_int : Call → Algorithm Value
parse_int c = do
  units ← to_string (argument c 0)
  radix ← to_number (argument c 1)
  give_number (parse_signed (int32_of radix) (without_front units))

-- isNaN(number) (15.1.2.4)
abbrev pub is_nan : Call → Algorithm Value
is_nan c = do
  n ← to_number (argument c 0)
  give_truth (is_none n)

-- isFinite(number) (15.1.2.5); no number here is an infinity
abbrev pub is_finite : Call → Algorithm Value
is_finite c = do
  n ← to_number (argument c 0)
  give_truth (not (is_none n))

-- what a call of each does
abbrev pub global_algorithm : GlobalBuiltin → Call → Algorithm Value
global_algorithm global_builtin.Print c = print_call c
global_algorithm global_builtin.ConsoleLog c = print_call c
global_algorithm global_builtin.ParseInt c = parse_int c
global_algorithm global_builtin.IsNaN c = is_nan c
global_algorithm global_builtin.IsFinite c = is_finite c
