-- The number that a string converts to (9.3.1), in whole numbers: none where it is outside.
-- Units stand here by their numbers: 43 `+`, 45 `-`, 46 `.`, 48 `0`, 69 and 101 `E` and `e`, 88 and 120 `X` and `x`.
use Rattle.std.specs.Prelude.{ℕ, ◌+◌, ◌-◌, ◌*◌, ◌^◌, ℤ, pos, neg_ℤ, Bool, true, false, ◌==◌, ◌&&◌, ◌||◌, List, [], ◌∷◌}
use Rattle.std.specs.Prelude.{◌++◌, length, take, drop, codes, Option, Some, None, if◌then◌else◌}
use Rattle.std.specs.List.{list_all, list_any, prefix_len, suffix_len, before_first, after_first}
use Rattle.std.specs.Str.{bytes_eq}
use Rattle.jl_num.specs.Number.{Number}
use Rattle.jl_num.specs.Arithmetic.{number_of, quotient_of}
use Rattle.jl_token.specs.Characters.{is_white_space, is_line_terminator, is_digit, is_hex_digit, decimal_from}
use Rattle.jl_token.specs.Characters.{hex_from, first_is}

-- StrWhiteSpaceChar: white space (7.2) or a line terminator (7.3)
abbrev pub is_space : ℕ → Bool
is_space u = is_white_space u || is_line_terminator u

-- what stands between the spaces at the front and those at the end
abbrev pub without_front : List ℕ → List ℕ
without_front us = drop (prefix_len is_space us) us

abbrev pub without_end : List ℕ → List ℕ
without_end us = take (length us - suffix_len is_space us) us

abbrev pub trim : List ℕ → List ℕ
trim us = without_end (without_front us)

-- one digit or more, and nothing else
abbrev pub are_digits : (ℕ → Bool) → List ℕ → Bool
are_digits digit [] = false
are_digits digit (u ∷ us) = list_all digit (u ∷ us)

-- n or -n
abbrev pub with_sign : Bool → ℕ → ℤ
with_sign false n = pos n
with_sign true n = neg_ℤ (pos n)

-- the exact value of m · 10 ^ r / 10 ^ l, or of its negative
abbrev pub exact_value : Bool → ℕ → ℕ → ℕ → Option Number
exact_value negative m r l = quotient_of (Some (with_sign negative (m * 10 ^ r))) (Some (pos (10 ^ l)))

-- the powers of ten that the digits of an exponent multiply by and divide by, if they are digits
abbrev pub raises : List ℕ → Option (ℕ × ℕ)
raises ds = if are_digits is_digit ds then Some (decimal_from 0 ds, 0) else None

abbrev pub lowers : List ℕ → Option (ℕ × ℕ)
lowers ds = if are_digits is_digit ds then Some (0, decimal_from 0 ds) else None

-- the same for an ExponentPart after its letter: digits, after a sign or none
abbrev pub exponent_of : List ℕ → Option (ℕ × ℕ)
exponent_of [] = None
exponent_of (u ∷ us) = if u == 43 then raises us else (if u == 45 then lowers us else raises (u ∷ us))

abbrev pub is_exponent_letter : ℕ → Bool
is_exponent_letter u = u == 101 || u == 69

abbrev pub is_point : ℕ → Bool
is_point u = u == 46

-- the parts of a StrUnsignedDecimalLiteral: what stands before the letter of its exponent, which is digits with a point
-- among them, before or after them, or none; and the exponent, which is 0 where there is no letter
abbrev pub significand : List ℕ → List ℕ
significand us = before_first is_exponent_letter us

abbrev pub whole_part : List ℕ → List ℕ
whole_part us = before_first is_point (significand us)

abbrev pub fraction_part : List ℕ → List ℕ
fraction_part us = after_first is_point (significand us)

abbrev pub exponent_part : List ℕ → Option (ℕ × ℕ)
exponent_part us =
    if list_any is_exponent_letter us then exponent_of (after_first is_exponent_letter us) else Some (0, 0)

-- the value of such parts: NaN where they are no literal
abbrev pub parts_number : Bool → List ℕ → List ℕ → Option (ℕ × ℕ) → Option Number
parts_number negative whole fraction None = Some None
parts_number negative whole fraction (Some (r, l)) =
    if are_digits is_digit (whole ++ fraction)
    then exact_value negative (decimal_from 0 (whole ++ fraction)) r (length fraction + l)
    else Some None

-- StrUnsignedDecimalLiteral, after a minus or not
abbrev pub decimal_number : Bool → List ℕ → Option Number
decimal_number negative us =
    if bytes_eq us (codes "Infinity") then None
    else parts_number negative (whole_part us) (fraction_part us) (exponent_part us)

-- HexIntegerLiteral, after its `0x`
abbrev pub hexadecimal_number : List ℕ → Option Number
hexadecimal_number us = if are_digits is_hex_digit us then number_of (pos (hex_from 0 us)) else Some None

abbrev pub is_hexadecimal_letter : ℕ → Bool
is_hexadecimal_letter u = u == 120 || u == 88

-- StrNumericLiteral, or nothing, which is 0
abbrev pub literal_number : List ℕ → Option Number
literal_number [] = Some (Some (pos 0))
literal_number (u ∷ us) =
    if u == 43 then decimal_number false us
    else (if u == 45 then decimal_number true us
    else (if u == 48 && first_is is_hexadecimal_letter us then hexadecimal_number (drop 1 us)
    else decimal_number false (u ∷ us)))

-- StringNumericLiteral
unfoldable pub text_number : List ℕ → Option Number
text_number us = literal_number (trim us)
