-- The numbers of a script (8.5, in whole numbers): NaN, or a whole number of at most 2^53 - 1 in size.
use Rattle.std.specs.Prelude.{ℤ, pos, ◌≤ℤ◌, negsuc, Option, Some, None, Bool, int_le, ◌&&◌, ℕ}

-- what contracts see of a `Num`: none is NaN
abbrev pub Number : Type 0
Number = Option ℤ

-- the largest number: 2^53 - 1
abbrev pub largest : ℕ
largest = 9007199254740991

-- it is one of the numbers of a script; `negsuc n` is -(n + 1), so the least one is minus the largest
abbrev pub IsNumber : Number → Type 0
IsNumber None = Unit {0}
IsNumber (Some z) = (negsuc 9007199254740990 ≤ℤ z) × (z ≤ℤ pos largest)

-- `IsNumber` of a whole number, as a test
abbrev pub is_number : ℤ → Bool
is_number z = int_le (negsuc 9007199254740990) z && int_le z (pos largest)
