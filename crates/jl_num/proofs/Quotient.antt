-- What the code's `/` and `%` give at two numbers of a script, the second not 0.
use Rattle.std.proofs.Common.{◌≡◌, ◌≢◌, ℕ, ◌+◌, ◌*◌, ◌^◌, ◌<◌, ◌≤◌, ℤ, pos, negsuc, ◌*ℤ◌, Some, None, true, false, refl}
use Rattle.std.proofs.Common.{sym, ap, ◌∙◌, arith, w64, FitsSigned, to_z, of_z, unsigned_abs, Bool, zero, suc}
use Rattle.std.specs.Bool.{Decides}
use Rattle.std.proofs.lemmas.Int.{ints, to_z-of_z, quot-rem, rem_is, quot_is, unsigned_abs-mul, fits_signed_from_abs}
use Rattle.std.proofs.lemmas.Bool.Decides.{Decides-int_eq}
use Rattle.std.specs.Prelude.{int_div, int_rem}
use Rattle.std.specs.Ordering.{int_eq}
use Rattle.jl_num.specs.Number.{IsNumber}
use Rattle.jl_num.specs.Arithmetic.{number_of, quotient_of}

-- the code's quotient and remainder
abbrev quotient_bits : ℤ → ℤ → ℕ
quotient_bits a b = of_z w64 (int_div (to_z w64 (of_z w64 a)) (to_z w64 (of_z w64 b)))

abbrev remainder_bits : ℤ → ℤ → ℕ
remainder_bits a b = of_z w64 (int_rem (to_z w64 (of_z w64 a)) (to_z w64 (of_z w64 b)))

le_times : (q m a : ℕ) → q * suc m ≡ a → q ≤ a
le_times q m a e = let h : q * suc m ≡ q * m + q = omega arith in omega arith

pub false_from : {b : Bool} {P : Type 0} → Decides b P → ¬ P → b ≡ false
false_from {b = true} d n = absurd (n (d.0 refl))
false_from {b = false} d n = refl

apart : (z : ℤ) → (of_z w64 z ≡ 0 → ⊥) → z ≢ pos 0
apart z h e = h (ap (of_z w64) e)

pub small_size : (z : ℤ) → IsNumber (Some z) → unsigned_abs z < 2 ^ 53
small_size (pos n) h = let low = h.0 in let high = h.1 in omega (arith, ints)
small_size (negsuc n) h = let low = h.0 in let high = h.1 in omega (arith, ints)

-- a number of a script is an `i64`
pub in_word : (z : ℤ) → IsNumber (Some z) → FitsSigned w64 z
in_word z h = let s = small_size z h in fits_signed_from_abs w64 z (omega arith)

is_zero : (z : ℤ) → FitsSigned w64 z → of_z w64 z ≡ 0 → z ≡ pos 0
is_zero (pos n) f e = ap pos e
is_zero (negsuc n) f e = omega (arith, ints)

not_zero : (z : ℤ) → (of_z w64 z ≡ 0 → ⊥) → int_eq z (pos 0) ≡ false
not_zero z h = false_from (Decides-int_eq z (pos 0)) (apart z h)

whole : (a b : ℤ) → int_rem a b ≡ pos 0 → int_div a b *ℤ b ≡ a
whole a b e = let h = quot-rem a b in omega (arith, ints)

no_rest : (a b : ℤ) → int_div a b *ℤ b ≡ a → int_rem a b ≡ pos 0
no_rest a b e = let h = quot-rem a b in omega (arith, ints)

-- a whole quotient is of no larger size than the dividend
smaller : (a b q : ℤ) → b ≢ pos 0 → q *ℤ b ≡ a → unsigned_abs q ≤ unsigned_abs a
smaller a b q n e = at_least_one b n (sym (unsigned_abs-mul q b) ∙ ap unsigned_abs e)
  where
    at_least_one : (b : ℤ) → b ≢ pos 0 → unsigned_abs q * unsigned_abs b ≡ unsigned_abs a
        → unsigned_abs q ≤ unsigned_abs a
    at_least_one (pos zero) n e = absurd (n refl)
    at_least_one (pos (suc m)) n e = le_times (unsigned_abs q) m (unsigned_abs a) e
    at_least_one (negsuc m) n e = le_times (unsigned_abs q) m (unsigned_abs a) e

pub whole_quotient : (a b : ℤ) → IsNumber (Some a) → IsNumber (Some b) → (of_z w64 b ≡ 0 → ⊥)
    → remainder_bits a b ≡ 0 → number_of (to_z w64 (quotient_bits a b)) ≡ quotient_of (Some a) (Some b)
whole_quotient a b ha hb n e =
    let fa = in_word a ha in
    let fb = in_word b hb in
    let r : int_rem a b ≡ pos 0 = sym (rem_is w64 a b fa fb) ∙ ap (to_z w64) e in
    let q : int_div a b *ℤ b ≡ a = whole a b r in
    let size : unsigned_abs (int_div a b) ≤ unsigned_abs a = smaller a b (int_div a b) (apart b n) q in
    let sa = small_size a ha in
    let fq : FitsSigned w64 (int_div a b) = fits_signed_from_abs w64 (int_div a b) (omega arith) in
    rw (not_zero b n, (Decides-int_eq (int_div a b *ℤ b) a).1 q) (ap number_of (quot_is w64 a b fa fb fq))

pub fraction : (a b : ℤ) → IsNumber (Some a) → IsNumber (Some b) → (of_z w64 b ≡ 0 → ⊥)
    → (remainder_bits a b ≡ 0 → ⊥) → quotient_of (Some a) (Some b) ≡ None
fraction a b ha hb n e =
    let fa = in_word a ha in
    let fb = in_word b hb in
    let differs : int_div a b *ℤ b ≢ a =
    λ q. e (rw (to_z-of_z w64 a fa, to_z-of_z w64 b fb) (ap (of_z w64) (no_rest a b q))) in
    rw (not_zero b n, false_from (Decides-int_eq (int_div a b *ℤ b) a) differs) refl
