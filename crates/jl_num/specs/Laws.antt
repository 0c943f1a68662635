-- What the definitions of the arithmetic, of the bits and of the digits come to.
use Rattle.std.specs.Prelude.{◌≡◌, ◌≢◌, ◌↔◌, ℕ, ◌+◌, ◌-◌, ◌^◌, ◌<◌, ◌≤◌, ℤ, pos, negsuc, ◌+ℤ◌, ◌*ℤ◌, ◌≤ℤ◌, ◌<ℤ◌}
use Rattle.std.specs.Prelude.{unsigned_abs, Some, slice_index}
use Rattle.std.specs.Int.{int_pow}
use Rattle.std.specs.Str.Parse.{digits_value}
use Rattle.jl_num.specs.Number.{Number, IsNumber}
use Rattle.jl_num.specs.Arithmetic.{sum_of, difference_of, product_of, quotient_of, remainder_of, negative_of}
use Rattle.jl_num.specs.Power.{power_of}
use Rattle.jl_num.specs.Bits.{uint32_of, uint16_of, int32_of, left_shift_of, right_shift_of, unsigned_right_shift_of}
use Rattle.jl_num.specs.Bits.{and_of, or_of, xor_of, complement_of}
use Rattle.jl_num.specs.Digits.{digits_of}

-- what an operation gives is a number of a script
pub record GiveNumbers (a b : Number) : Type 0 where
  pub sum : (c : Number) → sum_of a b ≡ Some c → IsNumber c
  pub difference : (c : Number) → difference_of a b ≡ Some c → IsNumber c
  pub product : (c : Number) → product_of a b ≡ Some c → IsNumber c
  pub quotient : (c : Number) → quotient_of a b ≡ Some c → IsNumber c
  pub remainder : IsNumber (remainder_of a b)
  pub negative : IsNumber (negative_of a)
  pub power : (c : Number) → power_of a b ≡ Some c → IsNumber c
  pub left_shift : IsNumber (left_shift_of a b)
  pub right_shift : IsNumber (right_shift_of a b)
  pub unsigned_right_shift : IsNumber (unsigned_right_shift_of a b)
  pub and : IsNumber (and_of a b)
  pub or : IsNumber (or_of a b)
  pub xor : IsNumber (xor_of a b)
  pub complement : IsNumber (complement_of a)

abbrev pub ResultsAreNumbers : Type 0
ResultsAreNumbers = (a b : Number) → IsNumber a → IsNumber b → GiveNumbers a b

-- a quotient is the number of a script whose product with the divisor is the dividend, and there is one where any such
-- is
abbrev pub QuotientsAreExact : Type 0
QuotientsAreExact =
    (a b q : ℤ) → b ≢ pos 0 → (quotient_of (Some a) (Some b) ≡ Some (Some q)) ↔ ((q *ℤ b ≡ a) × IsNumber (Some q))

-- r is what a division of a by b leaves (11.5.3): smaller than the divisor, and of the dividend's sign
pub record IsRemainder (a b r : ℤ) : Type 0 where
  pub quotient : ℤ
  pub whole : quotient *ℤ b +ℤ r ≡ a
  pub smaller : unsigned_abs r < unsigned_abs b
  pub not_below : pos 0 ≤ℤ a → pos 0 ≤ℤ r
  pub not_above : a ≤ℤ pos 0 → r ≤ℤ pos 0

abbrev pub RemaindersAreExact : Type 0
RemaindersAreExact = (a b r : ℤ) → b ≢ pos 0 → remainder_of (Some a) (Some b) ≡ Some r → IsRemainder a b r

-- a power has one factor more than that of the exponent before
abbrev pub PowersMultiply : Type 0
PowersMultiply = (a : ℤ) (e : ℕ) → int_pow a (e + 1) ≡ int_pow a e *ℤ a

-- z and w differ by a multiple of m (5.2)
abbrev pub AreCongruent : ℕ → ℤ → ℤ → Type 0
AreCongruent m z w = (k : ℤ) × (k *ℤ pos m +ℤ w ≡ z)

-- the integers that a number stands for differ from it by a multiple of 2^32 or of 2^16, and have 32 or 16 bits
-- (9.5 to 9.7)
pub record StandFor (z : ℤ) : Type 0 where
  pub int32 : AreCongruent (2 ^ 32) z (int32_of (Some z))
  pub int32_from : negsuc (2 ^ 31 - 1) ≤ℤ int32_of (Some z)
  pub int32_below : int32_of (Some z) <ℤ pos (2 ^ 31)
  pub uint32 : AreCongruent (2 ^ 32) z (pos (uint32_of (Some z)))
  pub uint32_below : uint32_of (Some z) < 2 ^ 32
  pub uint16 : AreCongruent (2 ^ 16) z (pos (uint16_of (Some z)))
  pub uint16_below : uint16_of (Some z) < 2 ^ 16

abbrev pub IntegersStandForNumbers : Type 0
IntegersStandForNumbers = (z : ℤ) → StandFor z

-- the digits write the number, and no 0 stands before them
pub record WriteNumber (radix n : ℕ) : Type 0 where
  pub value : digits_value radix (digits_of radix n) ≡ n
  pub no_zero_first : 0 < n → slice_index (digits_of radix n) 0 ≢ 48

abbrev pub DigitsWriteNumbers : Type 0
DigitsWriteNumbers = (radix n : ℕ) → 2 ≤ radix → radix ≤ 36 → WriteNumber radix n
