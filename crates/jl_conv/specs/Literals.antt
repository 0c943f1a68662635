-- The productions of a StringNumericLiteral (9.3.1) with their values. A law says that `text_number` comes to these.
use Rattle.std.specs.Prelude.{◌≡◌, ℕ, ◌+◌, pos, true, false, List, [], ◌∷◌, ◌++◌, length, codes, Option, None}
use Rattle.jl_num.specs.Number.{Number}
use Rattle.jl_num.specs.Arithmetic.{number_of}
use Rattle.jl_token.specs.Characters.{is_digit, is_hex_digit, decimal_from, hex_from}
use Rattle.jl_token.specs.Elements.{Many, OneUnit, Digits, Exponent}
use Rattle.jl_conv.specs.Numerals.{exact_value, is_hexadecimal_letter}

-- StrUnsignedDecimalLiteral, but for `Infinity`: it writes the number m · 10 ^ r / 10 ^ l
pub data Unsigned : List ℕ → ℕ → ℕ → ℕ → Type 0 where
  whole : {us mid ds : List ℕ} {r l : ℕ} → Digits is_digit us ds mid → Exponent mid r l [] →
      Unsigned us (decimal_from 0 ds) r l
  with_point : {us mid ds fs end : List ℕ} {r l : ℕ} → Digits is_digit us ds (46 ∷ mid) →
      Many (OneUnit is_digit) mid fs end → Exponent end r l []
      → Unsigned us (decimal_from 0 (ds ++ fs)) r (length fs + l)
  from_point : {us fs end : List ℕ} {r l : ℕ} → Digits is_digit us fs end → Exponent end r l [] →
      Unsigned (46 ∷ us) (decimal_from 0 fs) r (length fs + l)

-- StrNumericLiteral and its value, which is none where it is outside
pub data Literal : List ℕ → Option Number → Type 0 where
  unsigned : {us : List ℕ} {m r l : ℕ} → Unsigned us m r l → Literal us (exact_value false m r l)
  plus : {us : List ℕ} {m r l : ℕ} → Unsigned us m r l → Literal (43 ∷ us) (exact_value false m r l)
  minus : {us : List ℕ} {m r l : ℕ} → Unsigned us m r l → Literal (45 ∷ us) (exact_value true m r l)
  infinity : Literal (codes "Infinity") None
  plus_infinity : Literal (43 ∷ codes "Infinity") None
  minus_infinity : Literal (45 ∷ codes "Infinity") None
  hexadecimal : {x : ℕ} {us ds : List ℕ} → is_hexadecimal_letter x ≡ true → Digits is_hex_digit us ds [] →
      Literal (48 ∷ x ∷ us) (number_of (pos (hex_from 0 ds)))
