-- The digits of a number, one place at a time.
use Rattle.std.proofs.Common.{◌≡◌, ℕ, zero, suc, ◌+◌, ◌/◌, ◌%◌, ◌<◌, ◌≤◌, List, [], ◌∷◌, ◌++◌, reverse, true, false}
use Rattle.std.proofs.Common.{nat_lt, refl, sym, ap, ◌∙◌, arith, append_assoc, add-one, ⊎_elim, ℤ, pos, unsigned_abs}
use Rattle.std.proofs.Common.{Some}
use Rattle.std.specs.Prelude.{int_lt}
use Rattle.std.proofs.Math.Nat.{div-lt_self}
use Rattle.std.proofs.lemmas.Bool.{cases_lt}
use Rattle.std.proofs.lemmas.Bool.Decides.{nat_tests}
use Rattle.std.proofs.lemmas.List.{reverse-append}
use Rattle.jl_num.specs.Digits.{digit_code, digits_within, digits_of, number_text}

-- the digit of the remainder, which stands last
abbrev pub last_digit : ℕ → ℕ → List ℕ
last_digit radix n = digit_code (n % radix) ∷ []

under : (n radix : ℕ) → n < radix → nat_lt n radix ≡ true
under n radix h = grind (arith, nat_tests)

not_under : (n radix : ℕ) → radix ≤ n → nat_lt n radix ≡ false
not_under n radix h = grind (arith, nat_tests)

pub one_digit : (radix places n : ℕ) → n < radix → digits_within radix (suc places) n ≡ digit_code n ∷ []
one_digit radix places n h = rw (under n radix h, digits_within) refl

pub more_digits : (radix places n : ℕ) → radix ≤ n
    → digits_within radix (suc places) n ≡ digits_within radix places (n / radix) ++ last_digit radix n
more_digits radix places n h = rw (not_under n radix h, digits_within) refl

pub quotient_less : (radix n : ℕ) → 2 ≤ radix → radix ≤ n → n / radix < n
quotient_less radix n two h = div-lt_self (omega arith) (omega arith)

-- more places than there are digits change nothing
enough_places : (radix p q n : ℕ) → 2 ≤ radix → n < p → n < q → digits_within radix p n ≡ digits_within radix q n
enough_places radix zero q n two hp hq = absurd (omega arith)
enough_places radix (suc p) zero n two hp hq = absurd (omega arith)
enough_places radix (suc p) (suc q) n two hp hq =
    ⊎_elim
    (λ below. one_digit radix p n below ∙ sym (one_digit radix q n below))
    (λ above.
    let less = quotient_less radix n two above in
    let front = enough_places radix p q (n / radix) two (omega arith) (omega arith) in
    more_digits radix p n above ∙ ap (λ ds. ds ++ last_digit radix n) front ∙ sym (more_digits radix q n above))
    (cases_lt n radix)

digits_of_one : (radix n : ℕ) → n < radix → digits_of radix n ≡ digit_code n ∷ []
digits_of_one radix n h = rw add-one (one_digit radix n n h)

digits_of_more : (radix n : ℕ) → 2 ≤ radix → radix ≤ n
    → digits_of radix n ≡ digits_of radix (n / radix) ++ last_digit radix n
digits_of_more radix n two h =
    let less = quotient_less radix n two h in
    let front = enough_places radix n (n / radix + 1) (n / radix) two less (omega arith) in
    rw add-one (more_digits radix n n h) ∙ ap (λ ds. ds ++ last_digit radix n) front

-- ---- the loop, which writes the digits backwards: those written so far, after the digits of the rest, are the whole

pub one_more : (radix rest : ℕ) (whole written : List ℕ) → 2 ≤ radix → radix ≤ rest
    → whole ≡ digits_of radix rest ++ reverse written
    → whole ≡ digits_of radix (rest / radix) ++ reverse (written ++ last_digit radix rest)
one_more radix rest whole written two h e =
    e ∙ ap (λ ds. ds ++ reverse written) (digits_of_more radix rest two h)
    ∙ append_assoc (digits_of radix (rest / radix)) (last_digit radix rest) (reverse written)
    ∙ ap (λ ds. digits_of radix (rest / radix) ++ ds) (sym (reverse-append written (last_digit radix rest)))

pub last_one : (radix rest : ℕ) (whole written : List ℕ) → rest < radix
    → whole ≡ digits_of radix rest ++ reverse written → reverse (written ++ digit_code rest ∷ []) ≡ whole
last_one radix rest whole written h e =
    reverse-append written (digit_code rest ∷ [])
    ∙ ap (λ ds. ds ++ reverse written) (sym (digits_of_one radix rest h))
    ∙ sym e

-- ---- the sign

pub negative_text : (z : ℤ) (radix : ℕ) (written : List ℕ) → int_lt z (pos 0) ≡ true
    → reverse written ≡ digits_of radix (unsigned_abs z) → reverse (written ++ 45 ∷ []) ≡ number_text (Some z) radix
negative_text z radix written h e = rw h (reverse-append written (45 ∷ []) ∙ ap (λ ds. 45 ∷ ds) e)

pub positive_text : (z : ℤ) (radix : ℕ) (written : List ℕ) → int_lt z (pos 0) ≡ false
    → reverse written ≡ digits_of radix (unsigned_abs z) → reverse written ≡ number_text (Some z) radix
positive_text z radix written h e = rw h e
