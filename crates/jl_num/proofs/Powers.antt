-- Powers of 0, 1 and -1, and powers that are outside.
use Rattle.std.proofs.Common.{◌≡◌, ℕ, zero, suc, ◌*◌, ◌%◌, ◌^◌, ◌<◌, ◌≤◌, ℤ, pos, negsuc, neg_ℤ, Some, None, true}
use Rattle.std.proofs.Common.{false, Bool, refl, ap, ◌∙◌, arith, unsigned_abs, cond, ◌+◌, ◌*ℤ◌, add-one, ⊎_elim}
use Rattle.std.proofs.lemmas.Bool.{cases_eq}
use Rattle.std.proofs.Math.Nat.{pow-zero, pow-suc, pow-le-pow_left, pow-le-pow_right}
use Rattle.std.specs.Prelude.{if◌then◌else◌, ◌==◌}
use Rattle.std.specs.Int.{int_pow}
use Rattle.jl_num.specs.Number.{is_number}
use Rattle.jl_num.specs.Arithmetic.{number_of}
use Rattle.jl_num.specs.Laws.{PowersMultiply}
use Rattle.jl_num.proofs.Quotient.{small_size}
use Rattle.jl_num.proofs.Exact.{is_inside}

one_to : (e : ℕ) → 1 ^ e ≡ 1
one_to zero = pow-zero 1
one_to (suc e) = rw (pow-suc 1 e, one_to e) refl

zero_to : (e : ℕ) → 0 < e → 0 ^ e ≡ 0
zero_to zero h = absurd (omega arith)
zero_to (suc e) h = let n : 0 ^ suc e ≡ 0 ^ e * 0 = pow-suc 0 e in omega arith

pub power_of_zero : (a : ℤ) (e : ℕ) → a ≡ pos 0 → 0 < e → number_of (int_pow a e) ≡ Some (Some (pos 0))
power_of_zero a e is h = rw is (ap (λ n. number_of (pos n)) (zero_to e h))

pub power_of_one : (a : ℤ) (e : ℕ) → a ≡ pos 1 → number_of (int_pow a e) ≡ Some (Some (pos 1))
power_of_one a e is = rw is (ap (λ n. number_of (pos n)) (one_to e))

pub even_power : (a : ℤ) (e : ℕ) → a ≡ negsuc 0 → e % 2 ≡ 0 → number_of (int_pow a e) ≡ Some (Some (pos 1))
even_power a e is even = rw (is, even) (ap (λ n. number_of (pos n)) (one_to e))

pub odd_power : (a : ℤ) (e : ℕ) → a ≡ negsuc 0 → ¬ (e % 2 ≡ 0) → number_of (int_pow a e) ≡ Some (Some (negsuc 0))
odd_power a e is odd =
    let one : e % 2 ≡ 1 = omega arith in rw (is, one) (ap (λ n. number_of (neg_ℤ (pos n))) (one_to e))

size_of_negative : (n : ℕ) → unsigned_abs (neg_ℤ (pos n)) ≡ n
size_of_negative zero = refl
size_of_negative (suc n) = refl

size_of_power : (a : ℤ) (e : ℕ) → unsigned_abs (int_pow a e) ≡ unsigned_abs a ^ e
size_of_power (pos a) e = refl
size_of_power (negsuc a) e = by_test (e % 2 == 0)
  where
    by_test : (t : Bool) → unsigned_abs (cond t (pos (suc a ^ e)) (neg_ℤ (pos (suc a ^ e)))) ≡ suc a ^ e
    by_test true = refl
    by_test false = size_of_negative (suc a ^ e)

pub too_large : (z : ℤ) → 2 ^ 53 ≤ unsigned_abs z → number_of z ≡ None
too_large z h = by_test (is_number z) refl
  where
    by_test : (t : Bool) → is_number z ≡ t → (if t then Some (Some z) else None) ≡ None
    by_test true e = let s = small_size z (is_inside z e) in absurd (omega arith)
    by_test false e = refl

pub large_power : (a : ℤ) (e : ℕ) → 2 ≤ unsigned_abs a → 63 < e → number_of (int_pow a e) ≡ None
large_power a e two h =
    let enough : 53 ≤ e = omega arith in
    let factors : 2 ^ 53 ≤ 2 ^ e = pow-le-pow_right (omega arith) enough in
    let base : 2 ^ e ≤ unsigned_abs a ^ e = pow-le-pow_left two e in
    let size = size_of_power a e in
    too_large (int_pow a e) (omega arith)

-- ---- one factor more

turned : (m n : ℕ) → neg_ℤ (pos (m * suc n)) ≡ pos m *ℤ negsuc n
turned m n = refl

turned_back : (m n : ℕ) → pos (m * suc n) ≡ neg_ℤ (pos m) *ℤ negsuc n
turned_back zero n = let none : 0 * suc n ≡ 0 = omega arith in rw none refl
turned_back (suc m) n = refl

pub powers_multiply : PowersMultiply
powers_multiply (pos a) e = rw add-one (ap pos (pow-suc a e))
powers_multiply (negsuc a) e = ⊎_elim even odd (cases_eq (e % 2) 0)
  where
    even : e % 2 ≡ 0 → int_pow (negsuc a) (e + 1) ≡ int_pow (negsuc a) e *ℤ negsuc a
    even h =
        let next : (e + 1) % 2 ≡ 1 = omega arith in
        rw (next, h) (ap (λ n. neg_ℤ (pos n)) (rw add-one (pow-suc (suc a) e)) ∙ turned (suc a ^ e) a)

    odd : ¬ (e % 2 ≡ 0) → int_pow (negsuc a) (e + 1) ≡ int_pow (negsuc a) e *ℤ negsuc a
    odd h =
        let one : e % 2 ≡ 1 = omega arith in
        let next : (e + 1) % 2 ≡ 0 = omega arith in
        rw (next, one) (ap pos (rw add-one (pow-suc (suc a) e)) ∙ turned_back (suc a ^ e) a)
