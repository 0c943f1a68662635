-- The text of a number in a radix (9.8.1, 15.7.4.2), as the codes of its characters.
use Rattle.std.specs.Prelude.{ℕ, zero, suc, ◌+◌, ◌/◌, ◌%◌, pos, int_lt, unsigned_abs, List, [], ◌∷◌, ◌++◌, Some, None}
use Rattle.std.specs.Prelude.{true, false, nat_lt, if◌then◌else◌}
use Rattle.jl_num.specs.Number.{Number}

-- the character of a digit: `0` to `9`, then `a` to `z`
abbrev pub digit_code : ℕ → ℕ
digit_code d = if nat_lt d 10 then 48 + d else 87 + d

-- the digits of n, which has at most this many places: of a number below the radix its one digit, and of any other the
-- digits of its quotient by the radix, and then the digit of its remainder
abbrev pub digits_within : ℕ → ℕ → ℕ → List ℕ
digits_within radix zero n = []
digits_within radix (suc places) n =
    elim (nat_lt n radix) [
      | true ↦ digit_code n ∷ []
      | false ↦ digits_within radix places (n / radix) ++ digit_code (n % radix) ∷ []
    ]

-- the digits of n, the most significant first
abbrev pub digits_of : ℕ → ℕ → List ℕ
digits_of radix n = digits_within radix (n + 1) n

-- `NaN`, or the digits of its size, after a `-` where it is below zero
abbrev pub number_text : Number → ℕ → List ℕ
number_text None radix = 78 ∷ 97 ∷ 78 ∷ []
number_text (Some z) radix = (if int_lt z (pos 0) then 45 ∷ [] else []) ++ digits_of radix (unsigned_abs z)
