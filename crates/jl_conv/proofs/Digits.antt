-- The text of a number is short.
use Rattle.std.proofs.Common.{ap, ◌∙◌, ℕ, zero, suc, ◌+◌, ◌/◌, ◌^◌, ◌<◌, ◌≤◌, List, [], ◌∷◌, ◌++◌, length, Bool, true}
use Rattle.std.proofs.Common.{false, Some, None, pos, unsigned_abs, arith, length-append, ⊎_elim}
use Rattle.std.specs.Prelude.{int_lt, if◌then◌else◌}
use Rattle.std.proofs.Math.Nat.{pow-suc}
use Rattle.std.proofs.lemmas.Nat.{div_below}
use Rattle.std.proofs.lemmas.Bool.{cases_lt}
use Rattle.jl_num.specs.Number.{Number, IsNumber}
use Rattle.jl_num.specs.Digits.{digits_within, digits_of, number_text}
use Rattle.jl_num.proofs.Places.{one_digit, more_digits, last_digit}
use Rattle.jl_num.proofs.Quotient.{small_size}

-- below 10 ^ (k + 1) there are at most k + 1 digits
digits_short : (places n k : ℕ) → n < 10 ^ suc k → length (digits_within 10 places n) ≤ suc k
digits_short zero n k h = omega arith
digits_short (suc places) n zero h =
    let small : n < 10 = omega (arith, pow-suc 10 0) in omega (arith, ap length (one_digit 10 places n small))
digits_short (suc places) n (suc k) h =
    ⊎_elim
    (λ below. omega (arith, ap length (one_digit 10 places n below)))
    (λ above.
    let less : n / 10 < 10 ^ suc k = div_below n 10 (10 ^ suc k) (omega arith) (omega (arith, pow-suc 10 (suc k))) in
    let front = digits_short places (n / 10) k less in
    let all = ap length (more_digits 10 places n above)
    ∙ length-append (digits_within 10 places (n / 10)) (last_digit 10 n) in
    omega arith)
    (cases_lt n 10)

signed_short : (t : Bool) (ds : List ℕ) → length ds ≤ 16 → length ((if t then 45 ∷ [] else []) ++ ds) ≤ 1048576
signed_short true ds h = omega arith
signed_short false ds h = omega arith

pub number_short : (n : Number) → IsNumber n → length (number_text n 10) ≤ 1048576
number_short None h = omega arith
number_short (Some z) h =
    let small = small_size z h in
    signed_short (int_lt z (pos 0)) (digits_of 10 (unsigned_abs z))
    (digits_short (unsigned_abs z + 1) (unsigned_abs z) 15 (omega arith))
