-- How the lexer values a numeric literal: its digits without the zeros at their end, and how many these are. No
-- public clause stands on it.
use Rattle.std.specs.Prelude.{◌≡◌, ◌<◌, ◌≤◌, ℕ, zero, suc, ◌+◌, ◌-◌, ◌*◌, ◌%◌, ◌^◌, drop, length, ◌==◌, nat_le, List}
use Rattle.std.specs.Prelude.{[], ◌∷◌, Option, Some, None, if◌then◌else◌}
use Rattle.jl_num.specs.Number.{largest}
use Rattle.jl_token.specs.Characters.{hex_digit_value}
use Rattle.jl_token.specs.inner.Scanner.{value_of}
use Rattle.jl_lex.specs.declared.numbers.Numeral.{Numeral}
use Rattle.jl_lex.specs.declared.numbers.Exponent.{Exponent}

-- ten times a number, k times, as long as it isn't past the numbers of a script
unfoldable pub scale : ℕ → ℕ → ℕ
scale c zero = c
scale c (suc k) = if nat_le c largest then scale (c * 10) k else c

-- one more digit after c · 10 ^ z; where c is past the numbers of a script, only that counts
unfoldable pub add_digit : ℕ → ℕ × ℕ → ℕ × ℕ
add_digit u (c, z) = if u == 48 then (if c == 0 then (c, z) else (c, z + 1)) else
    (if nat_le c largest then (scale c (z + 1) + (u - 48), 0) else (c, z))

unfoldable pub add_digits : ℕ × ℕ → List ℕ → ℕ × ℕ
add_digits x [] = x
add_digits x (u ∷ us) = add_digits (add_digit u x) us

unfoldable pub if_number : ℕ → Option ℕ
if_number n = if nat_le n largest then Some n else None

-- the value of c · 10 ^ z · 10 ^ r / 10 ^ l, if it is a number of a script
unfoldable pub value_from : ℕ → ℕ → ℕ → ℕ → Option ℕ
value_from c z r l = if c == 0 then Some 0 else
    (if nat_le c largest then (if nat_le l (z + r) then if_number (scale c ((z + r) - l)) else None) else
    None)

-- the number that decimal digits write, which stands still once it is large
unfoldable pub capped_from : ℕ → List ℕ → ℕ
capped_from n [] = n
capped_from n (u ∷ us) = capped_from (if nat_le 1099511627776 n then n else n * 10 + (u - 48)) us

-- the same for hexadecimal digits, past the numbers of a script
unfoldable pub hex_capped_from : ℕ → List ℕ → ℕ
hex_capped_from n [] = n
hex_capped_from n (u ∷ us) = hex_capped_from (if nat_le n largest then n * 16 + hex_digit_value u else n) us

-- the exponents that were read stand for those of the literal, or are large and on the same side
pub data Exponents (r' l' r l : ℕ) : Type 0 where
  the_same : r' ≡ r → l' ≡ l → Exponents r' l' r l
  is_high : 1099511627776 ≤ r' → r' ≤ r → l' ≡ 0 → l ≡ 0 → Exponents r' l' r l
  is_low : 1099511627776 ≤ l' → l' ≤ l → r' ≡ 0 → r ≡ 0 → Exponents r' l' r l

-- a number that is past those of a script, however its zeros at the end are taken away
pub record Large (m : ℕ) : Type 0 where
  pub digits : ℕ
  pub zeros : ℕ
  pub is : m ≡ digits * 10 ^ zeros
  pub last : digits % 10 ≡ 0 → ⊥
  pub past : largest < digits

-- c · 10 ^ z is m, or both c and m are past the numbers of a script
pub data Stands (c z m : ℕ) : Type 0 where
  exact : c ≤ largest → m ≡ c * 10 ^ z → (c % 10 ≡ 0 → c ≡ 0) → Stands c z m
  beyond : largest < c → Large m → Stands c z m

-- a literal's value and the place after it are those that the scanner finds
abbrev pub NumeralFrom : List ℕ → ℕ → Numeral → ℕ × ℕ × ℕ × List ℕ → Type 0
NumeralFrom units low n x = (n.value ≡ value_of x.0 x.1 x.2) × (drop n.end units ≡ x.3) × (low ≤ n.end) ×
    (n.end ≤ length units)

-- an exponent's power of ten to multiply by, or the one to divide by, and the place after it
abbrev pub ExponentFrom : List ℕ → ℕ → Exponent → ℕ × ℕ × List ℕ → Type 0
ExponentFrom units low e x = Exponents e.raise e.lower x.0 x.1 × (drop e.end units ≡ x.2) × (low ≤ e.end) ×
    (e.end ≤ length units)
