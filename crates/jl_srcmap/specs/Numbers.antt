-- The numbers of a mappings text: variable-length quantities (VLQ) in base64 (Source Map revision 3, "Proposed
-- Format").
use Rattle.std.specs.Prelude.{◌≡◌, ℕ, zero, suc, ◌+◌, ◌-◌, ◌*◌, ◌/◌, ◌%◌, ◌<◌, ◌≤◌, ◌==◌, nat_le, nat_lt, List, []}
use Rattle.std.specs.Prelude.{◌∷◌, ◌++◌}
use Rattle.std.specs.Prelude.{length, Option, Some, None, if◌then◌else◌}

-- the value of a base64 digit (RFC 4648, table 1): `A` to `Z`, `a` to `z`, `0` to `9`, `+`, `/`
unfoldable pub digit_value : ℕ → Option ℕ
digit_value c =
    if nat_lt c 43 then None
    else (if c == 43 then Some 62
    else (if c == 47 then Some 63
    else (if nat_lt c 48 then None
    else (if nat_lt c 58 then Some (c + 4)
    else (if nat_lt c 65 then None
    else (if nat_lt c 91 then Some (c - 65)
    else (if nat_lt c 97 then None
    else (if nat_lt c 123 then Some (c - 71)
    else None))))))))

-- Digits, the least first, and the quantity that they make: each has five bits of it, and all but the last have the
-- bit 32, by which the quantity goes on.
pub data Digits : List ℕ → ℕ → Type 0 where
  last : {c v : ℕ} → digit_value c ≡ Some v → v < 32 → Digits (c ∷ []) v
  more : {c v n : ℕ} {cs : List ℕ} → digit_value c ≡ Some v → 32 ≤ v → Digits cs n →
      Digits (c ∷ cs) (v - 32 + 32 * n)

-- at most seven digits make a quantity
abbrev pub most_digits : ℕ
most_digits = 7

-- one quantity after the other
pub data Quantities : List ℕ → List ℕ → Type 0 where
  none : Quantities [] []
  one : {digits text : List ℕ} {n : ℕ} {ns : List ℕ} → Digits digits n → length digits ≤ most_digits →
      Quantities text ns → Quantities (digits ++ text) (n ∷ ns)

-- A quantity stands for a difference: its lowest bit is the sign, and the rest is the size. `Moves n a b` says that it
-- leads from a to b, which is below 2^32.
abbrev pub below_limit : ℕ → Type 0
below_limit n = n < 4294967296

pub data Moves : ℕ → ℕ → ℕ → Type 0 where
  up : {n a b : ℕ} → n % 2 ≡ 0 → b ≡ a + n / 2 → below_limit b → Moves n a b
  down : {n a b : ℕ} → n % 2 ≡ 1 → b + n / 2 ≡ a → below_limit b → Moves n a b

-- Running sums. Each quantity leads from the sum at its place to the field of the segment, and there are no more
-- quantities than sums.
pub data AllMove : List ℕ → List ℕ → List ℕ → Type 0 where
  none : {sums : List ℕ} → AllMove [] sums []
  one : {n a b : ℕ} {ns sums fields : List ℕ} → Moves n a b → AllMove ns sums fields →
      AllMove (n ∷ ns) (a ∷ sums) (b ∷ fields)

-- the sums after a segment with these fields: each field is the sum at its place, and the others stay
abbrev pub sums_after : List ℕ → List ℕ → List ℕ
sums_after sums [] = sums
sums_after [] (b ∷ fields) = []
sums_after (a ∷ sums) (b ∷ fields) = b ∷ sums_after sums fields

-- ---- what is written

-- the base64 digit of a value below 64 (RFC 4648, table 1)
unfoldable pub digit_of : ℕ → ℕ
digit_of v =
    if nat_lt v 26 then v + 65
    else (if nat_lt v 52 then v + 71
    else (if nat_lt v 62 then v - 4
    else (if v == 62 then 43
    else 47)))

-- the digits of a quantity, at most one more than a number
unfoldable pub digits_within : ℕ → ℕ → List ℕ
digits_within zero n = digit_of n ∷ []
digits_within (suc further) n =
    if nat_lt n 32 then digit_of n ∷ [] else digit_of (32 + n % 32) ∷ digits_within further (n / 32)

-- the fewest digits of a quantity below 2^35
abbrev pub digits_of : ℕ → List ℕ
digits_of n = digits_within 6 n

-- the quantity that leads from a to b, with the sign only where the size is not 0
abbrev pub difference : ℕ → ℕ → ℕ
difference a b = if nat_le a b then 2 * (b - a) else 2 * (a - b) + 1

-- the quantities that lead from running sums to the fields of a segment, with their digits
abbrev pub differences : (sums fields : List ℕ) → List ℕ
differences sums [] = []
differences [] (b ∷ fields) = []
differences (a ∷ sums) (b ∷ fields) = digits_of (difference a b) ++ differences sums fields
