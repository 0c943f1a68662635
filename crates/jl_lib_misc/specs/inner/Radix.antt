-- Numbers that digits in a radix write (15.1.2.2).
use Rattle.std.specs.Prelude.{◌≡◌, ◌<◌, ◌≤◌, List, MatchOption, Option, ℕ}
use Rattle.jl_meaning.specs.builtins.Global.{digits_in, whole_from}

-- the number that the digits in front write, going on from one
abbrev pub leading_number : (radix n : ℕ) → List ℕ → ℕ
leading_number radix n units = whole_from radix n (digits_in radix units)

-- what was found is this number, which is at most the largest, or nothing was found and it is greater
abbrev pub IsWithin : (most n : ℕ) → Option ℕ → Type 0
IsWithin most n found = MatchOption found (most < n) (λ size. (size ≡ n) × (size ≤ most))
