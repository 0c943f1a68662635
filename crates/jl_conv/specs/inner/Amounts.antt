-- How the code keeps numbers that may be large. No public clause stands on it.
use Rattle.std.specs.Prelude.{◌≡◌, ◌<◌, ◌≤◌, ℕ, ◌+◌, ◌^◌, Option, Some, None}
use Rattle.jl_conv.specs.declared.decimal.Exponent.{Exponent}

-- n is m, or both reach a limit
pub data Agree (limit n m : ℕ) : Type 0 where
  equal : n ≡ m → Agree limit n m
  reached : limit ≤ n → limit ≤ m → Agree limit n m

-- the powers r' and l' of ten stand for r and l: they are these, or large on the same side
pub data Sized (r' l' r l : ℕ) : Type 0 where
  known : r' ≡ r → l' ≡ l → r < 2 ^ 63 → l < 2 ^ 63 → Sized r' l' r l
  high : 2 ^ 63 ≤ r' → 2 ^ 63 ≤ r → l' ≡ 0 → l ≡ 0 → Sized r' l' r l
  low : 2 ^ 63 ≤ l' → 2 ^ 63 ≤ l → r' ≡ 0 → r ≡ 0 → Sized r' l' r l

-- an exponent that was read stands for these powers, or there is none
abbrev pub IsExponent : Option Exponent → Option (ℕ × ℕ) → Type 0
IsExponent None o = o ≡ None
IsExponent (Some e) o = (p : ℕ × ℕ) × (o ≡ Some p) × Sized e.raise e.lower p.0 p.1

-- the same for a number with so many zeros at its end, which shows with either that it is outside
pub data Powers (z r' l' r l : ℕ) : Type 0 where
  exactly : r' ≡ r → l' ≡ l → z + r < 2 ^ 64 → Powers z r' l' r l
  above : l' + 16 ≤ r' → l + 16 ≤ r → Powers z r' l' r l
  below : z + r' < l' → z + r < l → Powers z r' l' r l
