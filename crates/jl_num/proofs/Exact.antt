-- The laws of the arithmetic: remainders and quotients.
use Rattle.std.proofs.Common.{◌≡◌, ◌≢◌, ℕ, zero, suc, ◌*◌, ◌/◌, ◌%◌, ◌<◌, ◌≤◌, ℤ, pos, negsuc, ◌+ℤ◌, ◌-ℤ◌, ◌*ℤ◌, ◌≤ℤ◌}
use Rattle.std.proofs.Common.{neg_ℤ, Some, None, true, false, refl, sym, ap, ◌∙◌, arith, unsigned_abs, subst, Bool}
use Rattle.std.proofs.lemmas.Int.{ints, quot-rem, rem_below}
use Rattle.std.proofs.lemmas.Bool.Decides.{Decides-int_eq}
use Rattle.std.specs.Prelude.{int_div, int_rem, if◌then◌else◌}
use Rattle.std.specs.Ordering.{int_eq}
use Rattle.std.proofs.Math.Nat.{mul-div_cancel, zero-div, mod-le}
use Rattle.jl_num.specs.Number.{Number, IsNumber, is_number}
use Rattle.jl_num.specs.Arithmetic.{number_of, sum_of, difference_of, product_of, quotient_of, remainder_of}
use Rattle.jl_num.specs.Laws.{QuotientsAreExact, IsRemainder, RemaindersAreExact}
use Rattle.jl_num.proofs.Quotient.{false_from}

-- ---- numbers of a script

passes : (z : ℤ) → IsNumber (Some z) → is_number z ≡ true
passes z h = let low = h.0 in let high = h.1 in grind (arith, ints)

pub is_inside : (z : ℤ) → is_number z ≡ true → IsNumber (Some z)
is_inside z h = (grind (arith, ints), grind (arith, ints))

number_of_inside : (z : ℤ) → IsNumber (Some z) → number_of z ≡ Some (Some z)
number_of_inside z h = rw (passes z h) refl

number_of_gives : (z : ℤ) (c : Number) → number_of z ≡ Some c → (c ≡ Some z) × IsNumber (Some z)
number_of_gives z c e = by_test (is_number z) refl e
  where
    by_test : (t : Bool) → is_number z ≡ t → (if t then Some (Some z) else None) ≡ Some c → (c ≡ Some z)
        × IsNumber (Some z)
    by_test true h e = (cc, is_inside z h)
    by_test false h e = cc

pub given : (z : ℤ) (c : Number) → number_of z ≡ Some c → IsNumber c
given z c e = let g = number_of_gives z c e in subst IsNumber (sym g.0) g.1

pub nan_given : (c : Number) → Some None ≡ Some c → IsNumber c
nan_given c e = let g : c ≡ None = cc in subst IsNumber (sym g) tt

pub sum_gives : (a b c : Number) → sum_of a b ≡ Some c → IsNumber c
sum_gives None b c e = nan_given c e
sum_gives (Some x) None c e = nan_given c e
sum_gives (Some x) (Some y) c e = given (x +ℤ y) c e

pub difference_gives : (a b c : Number) → difference_of a b ≡ Some c → IsNumber c
difference_gives None b c e = nan_given c e
difference_gives (Some x) None c e = nan_given c e
difference_gives (Some x) (Some y) c e = given (x -ℤ y) c e

pub product_gives : (a b c : Number) → product_of a b ≡ Some c → IsNumber c
product_gives None b c e = nan_given c e
product_gives (Some x) None c e = nan_given c e
product_gives (Some x) (Some y) c e = given (x *ℤ y) c e

pub quotient_gives : (a b c : Number) → quotient_of a b ≡ Some c → IsNumber c
quotient_gives None b c e = nan_given c e
quotient_gives (Some x) None c e = nan_given c e
quotient_gives (Some x) (Some y) c e = by_tests (int_eq y (pos 0)) (int_eq x (pos 0)) (int_eq (int_div x y *ℤ y) x) e
  where
    by_tests : (s t u : Bool)
        → (if s then (if t then Some None else None) else (if u then number_of (int_div x y) else None)) ≡ Some c
        → IsNumber c
    by_tests true true u e = nan_given c e
    by_tests true false u e = cc
    by_tests false t true e = given (int_div x y) c e
    by_tests false t false e = cc

-- ---- what is left

negated : (m a : ℕ) → m ≤ suc a → (negsuc a ≤ℤ neg_ℤ (pos m)) × (neg_ℤ (pos m) ≤ℤ pos 0)
negated zero a h = (omega (arith, ints), omega (arith, ints))
negated (suc m) a h = (omega (arith, ints), omega (arith, ints))

left_inside : (x y : ℤ) → IsNumber (Some x) → IsNumber (Some (int_rem x y))
left_inside (pos a) y h =
    let high = h.1 in
    let le = mod-le a (unsigned_abs y) in (omega (arith, ints), omega (arith, ints))
left_inside (negsuc a) y h =
    let low = h.0 in
    let n = negated (suc a % unsigned_abs y) a (mod-le (suc a) (unsigned_abs y)) in
    let n0 = n.0 in
    let n1 = n.1 in (omega (arith, ints), omega (arith, ints))

pub remainder_given : (a b : Number) → IsNumber a → IsNumber (remainder_of a b)
remainder_given None b h = tt
remainder_given (Some x) None h = tt
remainder_given (Some x) (Some y) h = by_test (int_eq y (pos 0))
  where
    by_test : (s : Bool) → IsNumber (if s then None else Some (int_rem x y))
    by_test true = tt
    by_test false = left_inside x y h

size_above : (b : ℤ) → b ≢ pos 0 → 0 < unsigned_abs b
size_above (pos zero) n = absurd (n refl)
size_above (pos (suc k)) n = omega arith
size_above (negsuc k) n = omega arith

left_below : (a b : ℤ) → pos 0 ≤ℤ a → pos 0 ≤ℤ int_rem a b
left_below (pos n) b h = omega (arith, ints)
left_below (negsuc n) b h = absurd (omega (arith, ints))

left_above : (a b : ℤ) → a ≤ℤ pos 0 → int_rem a b ≤ℤ pos 0
left_above (pos n) b h = let le = mod-le n (unsigned_abs b) in omega (arith, ints)
left_above (negsuc n) b h = (negated (suc n % unsigned_abs b) n (mod-le (suc n) (unsigned_abs b))).1

is_remainder : (a b : ℤ) → b ≢ pos 0 → IsRemainder a b (int_rem a b)
is_remainder a b n = record {
  quotient = int_div a b;
  whole = quot-rem a b;
  smaller = rem_below a b (size_above b n);
  not_below = left_below a b;
  not_above = left_above a b;
}

pub remainders_are_exact : RemaindersAreExact
remainders_are_exact a b r n e =
    let zero = false_from (Decides-int_eq b (pos 0)) n in
    let given : Some (int_rem a b) ≡ Some r = rw zero at e in
    let same : int_rem a b ≡ r = cc in
    subst (IsRemainder a b) same (is_remainder a b n)

-- ---- quotients

by_negative : (m b : ℕ) → int_div (neg_ℤ (pos m)) (negsuc b) ≡ pos (m / suc b)
by_negative zero b = rw zero-div refl
by_negative (suc m) b = refl

by_positive : (m b : ℕ) → int_div (neg_ℤ (pos m)) (pos b) ≡ neg_ℤ (pos (m / b))
by_positive zero b = rw zero-div refl
by_positive (suc m) b = refl

quotient_of_product : (q b : ℤ) → b ≢ pos 0 → int_div (q *ℤ b) b ≡ q
quotient_of_product q (pos zero) n = absurd (n refl)
quotient_of_product (pos x) (pos (suc b)) n = ap pos (mul-div_cancel x (omega arith))
quotient_of_product (pos x) (negsuc b) n = by_negative (x * suc b) b ∙ ap pos (mul-div_cancel x (omega arith))
quotient_of_product (negsuc x) (pos (suc b)) n =
    by_positive (suc x * suc b) (suc b) ∙ ap (λ k. neg_ℤ (pos k)) (mul-div_cancel (suc x) (omega arith))
quotient_of_product (negsuc x) (negsuc b) n = ap (λ k. neg_ℤ (pos k)) (mul-div_cancel (suc x) (omega arith))

whole_from : (a b q : ℤ) → b ≢ pos 0 → quotient_of (Some a) (Some b) ≡ Some (Some q) → (q *ℤ b ≡ a) × IsNumber (Some q)
whole_from a b q n e = by_test (int_eq (int_div a b *ℤ b) a) refl (rw (false_from (Decides-int_eq b (pos 0)) n) at e)
  where
    by_test : (t : Bool) → int_eq (int_div a b *ℤ b) a ≡ t → (if t then number_of (int_div a b) else None)
        ≡ Some (Some q)
        → (q *ℤ b ≡ a) × IsNumber (Some q)
    by_test false h e = cc
    by_test true h e =
        let g = number_of_gives (int_div a b) (Some q) e in
        let one : q ≡ int_div a b = cc in
        (ap (λ z. z *ℤ b) one ∙ (Decides-int_eq (int_div a b *ℤ b) a).0 h, subst IsNumber (sym g.0) g.1)

whole_to : (a b q : ℤ) → b ≢ pos 0 → q *ℤ b ≡ a → IsNumber (Some q) → quotient_of (Some a) (Some b) ≡ Some (Some q)
whole_to a b q n e inside =
    let one : int_div a b ≡ q = sym (ap (λ z. int_div z b) e) ∙ quotient_of_product q b n in
    let test : int_eq (int_div a b *ℤ b) a ≡ true =
    (Decides-int_eq (int_div a b *ℤ b) a).1 (ap (λ z. z *ℤ b) one ∙ e) in
    rw (false_from (Decides-int_eq b (pos 0)) n, test) (ap number_of one ∙ number_of_inside q inside)

pub quotients_are_exact : QuotientsAreExact
quotients_are_exact a b q n = (whole_from a b q n, λ h. whole_to a b q n h.0 h.1)
