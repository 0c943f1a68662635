-- The exact value of an amount with an exponent.
use Rattle.std.proofs.Common.{◌≡◌, ◌≢◌, refl, sym, ap, ◌∙◌, subst, ℕ, zero, suc, ◌+◌, ◌-◌, ◌*◌, ◌^◌, ◌<◌, ◌≤◌, min, ℤ}
use Rattle.std.proofs.Common.{pos, ◌*ℤ◌, unsigned_abs, Bool, true, false, Bor, List, ◌++◌, length, Option}
use Rattle.std.proofs.Common.{Some, None, ◌⊎◌, inl, inr, arith, ⊎_elim}
use Rattle.std.proofs.lemmas.Int.{ints, unsigned_abs-mul}
use Rattle.std.proofs.lemmas.Nat.{pow-add}
use Rattle.std.proofs.lemmas.Bool.{cases_lt}
use Rattle.std.proofs.lemmas.Bool.Decides.{Decides-int_eq}
use Rattle.std.specs.Prelude.{if◌then◌else◌, int_div, codes}
use Rattle.std.specs.Ordering.{int_eq}
use Rattle.std.specs.Option.{MatchOption}
use Rattle.std.specs.Str.{bytes_eq}
use Rattle.std.specs.List.{list_any, after_first}
use Rattle.jl_num.specs.Number.{Number, IsNumber, is_number}
use Rattle.jl_num.specs.Arithmetic.{number_of, quotient_of}
use Rattle.jl_num.proofs.Exact.{quotients_are_exact}
use Rattle.jl_num.proofs.Powers.{too_large}
use Rattle.jl_num.proofs.Quotient.{false_from, small_size}
use Rattle.jl_token.proofs.Values.{ten_pos}
use Rattle.jl_lex.specs.inner.Amounts.{Stands, exact, beyond}
use Rattle.jl_lex.proofs.Powers.{at_least, far, assoc}
use Rattle.jl_lex.proofs.AmountLemmas.{whole_value}
use Rattle.jl_lex.proofs.NumberLoops.{decimal_append}
use Rattle.jl_conv.specs.Numerals.{with_sign, exact_value}
use Rattle.jl_token.specs.Characters.{is_digit, decimal_from}
use Rattle.jl_conv.specs.declared.decimal.Exponent.{Exponent}
use Rattle.jl_conv.specs.Numerals.{are_digits, raises, lowers, is_exponent_letter, exponent_of, exponent_part}
use Rattle.jl_conv.specs.Numerals.{whole_part, fraction_part, parts_number, decimal_number}
use Rattle.jl_conv.specs.inner.Amounts.{Agree, equal, reached, Sized, known, high, low, IsExponent, Powers, exactly}
use Rattle.jl_conv.specs.inner.Amounts.{above, below}

not_zero : (l : ℕ) → pos (10 ^ l) ≢ pos 0
not_zero l e = let h = ten_pos l in let is : 10 ^ l ≡ 0 = ap unsigned_abs e in absurd (omega arith)

number_of_inside : (z : ℤ) → IsNumber (Some z) → number_of z ≡ Some (Some z)
number_of_inside z h = rw (passes z h) refl
  where
    passes : (z : ℤ) → IsNumber (Some z) → is_number z ≡ true
    passes z h = let low = h.0 in let high = h.1 in grind (arith, ints)

size_of_signed : (negative : Bool) (n : ℕ) → unsigned_abs (with_sign negative n) ≡ n
size_of_signed false n = refl
size_of_signed true zero = refl
size_of_signed true (suc n) = refl

signed_product : (negative : Bool) (n b : ℕ) → with_sign negative n *ℤ pos b ≡ with_sign negative (n * b)
signed_product false n b = refl
signed_product true zero b = let none : 0 * b ≡ 0 = omega arith in rw none refl
signed_product true (suc n) b = refl

signed_inside : (negative : Bool) (n : ℕ) → n ≤ 9007199254740991 → IsNumber (Some (with_sign negative n))
signed_inside false n h = (omega (arith, ints), omega (arith, ints))
signed_inside true zero h = (omega (arith, ints), omega (arith, ints))
signed_inside true (suc n) h = (omega (arith, ints), omega (arith, ints))

pub value_is : (negative : Bool) (m r l n : ℕ) → n * 10 ^ l ≡ m * 10 ^ r → n ≤ 9007199254740991
    → exact_value negative m r l ≡ Some (Some (with_sign negative n))
value_is negative m r l n e h =
    (quotients_are_exact (with_sign negative (m * 10 ^ r)) (pos (10 ^ l)) (with_sign negative n) (not_zero l)).1
    (signed_product negative n (10 ^ l) ∙ ap (with_sign negative) e, signed_inside negative n h)

whole_or_none : (a b : ℤ) → b ≢ pos 0
    → (quotient_of (Some a) (Some b) ≡ None) ⊎ ((q : ℤ) × (quotient_of (Some a) (Some b) ≡ Some (Some q)))
whole_or_none a b n =
    rw (false_from (Decides-int_eq b (pos 0)) n)
    (by_tests (int_eq (int_div a b *ℤ b) a) (is_number (int_div a b)))
  where
    by_tests : (s t : Bool)
        → ((if s then (if t then Some (Some (int_div a b)) else None) else None) ≡ None)
        ⊎ ((q : ℤ) × ((if s then (if t then Some (Some (int_div a b)) else None) else None) ≡ Some (Some q)))
    by_tests true true = inr (int_div a b, refl)
    by_tests true false = inl refl
    by_tests false t = inl refl

no_value : (negative : Bool) (m r l : ℕ) → ((n : ℕ) → n * 10 ^ l ≡ m * 10 ^ r → n ≤ 9007199254740991 → ⊥)
    → exact_value negative m r l ≡ None
no_value negative m r l none =
    ⊎_elim
    (λ is. is)
    (λ some.
    let x = (quotients_are_exact (with_sign negative (m * 10 ^ r)) (pos (10 ^ l)) some.0 (not_zero l)).0 some.1 in
    let small = small_size some.0 x.1 in
    absurd
    (none (unsigned_abs some.0)
    (sym (unsigned_abs-mul some.0 (pos (10 ^ l))) ∙ ap unsigned_abs x.0 ∙ size_of_signed negative (m * 10 ^ r))
    (omega arith)))
    (whole_or_none (with_sign negative (m * 10 ^ r)) (pos (10 ^ l)) (not_zero l))

-- what the code finds

pub no_digits : (negative : Bool) (z m r l : ℕ) → Stands 0 z m → exact_value negative m r l ≡ Some (Some (pos 0))
no_digits negative z m r l (exact h e p) =
    let is : m ≡ 0 = e ∙ omega arith in
    let nothing : 0 * 10 ^ l ≡ m * 10 ^ r = omega (arith, ap (λ n. n * 10 ^ r) is) in
    value_is negative m r l 0 nothing (omega arith) ∙ zero_signed negative
  where
    zero_signed : (negative : Bool) → Some (Some (with_sign negative 0)) ≡ Some (Some (pos 0))
    zero_signed false = refl
    zero_signed true = refl
no_digits negative z m r l (beyond h g) = absurd (omega arith)

pub many_digits : (negative : Bool) (c z m r l : ℕ) → 9007199254740991 < c → Stands c z m → exact_value negative m r l
    ≡ None
many_digits negative c z m r l h (exact i e p) = absurd (omega arith)
many_digits negative c z m r l h (beyond i g) =
    no_value negative m r l (λ n e inside.
    let w = whole_value g.digits g.zeros r l n g.last (e ∙ ap (λ k. k * 10 ^ r) g.is) in
    let is = w.1 in
    let past = g.past in
    let a = at_least g.digits ((g.zeros + r) - l) in absurd (omega arith))

-- a value's size, for a coefficient that isn't 0
meant : (c z m r l n : ℕ) → ¬ (c ≡ 0) → c ≤ 9007199254740991 → Stands c z m → n * 10 ^ l ≡ m * 10 ^ r
    → (l ≤ z + r) × (n ≡ c * 10 ^ ((z + r) - l))
meant c z m r l n some h (exact i e p) is = whole_value c z r l n (λ g. some (p g)) (is ∙ ap (λ k. k * 10 ^ r) e)
meant c z m r l n some h (beyond i g) is = absurd (omega arith)

pub fraction : (negative : Bool) (c z m r' l' r l total : ℕ) → ¬ (c ≡ 0) → c ≤ 9007199254740991 → r' < 2 ^ 64
    → total ≡ min (z + r') (2 ^ 64 - 1) → total < l' → Stands c z m → Powers z r' l' r l → exact_value negative m r l
    ≡ None
fraction negative c z m r' l' r l total some h fits is under_it s p =
    no_value negative m r l (λ n e inside.
    let w = meant c z m r l n some h s e in let order = w.0 in absurd (under p order))
  where
    under : Powers z r' l' r l → l ≤ z + r → ⊥
    under (exactly a b d) order = absurd (omega arith)
    under (above a b) order = absurd (omega arith)
    under (below a b) order = absurd (omega arith)

pub large : (negative : Bool) (c z m r' l' r l total : ℕ) → ¬ (c ≡ 0) → c ≤ 9007199254740991 → r' < 2 ^ 64
    → total ≡ min (z + r') (2 ^ 64 - 1) → l' ≤ total → 15 < total - l' → Stands c z m → Powers z r' l' r l
    → exact_value negative m r l ≡ None
large negative c z m r' l' r l total some h fits is order far_up s p =
    no_value negative m r l (λ n e inside.
    let w = meant c z m r l n some h s e in
    let size = w.1 in
    let past = far c ((z + r) - l) (above_zero c some) (over p) in absurd (omega arith))
  where
    above_zero : (c : ℕ) → ¬ (c ≡ 0) → 0 < c
    above_zero c h = grind arith

    over : Powers z r' l' r l → 16 ≤ (z + r) - l
    over (exactly a b d) = omega arith
    over (above a b) = omega arith
    over (below a b) = absurd (omega arith)

pub inside : (negative : Bool) (c z m r' l' r l total size : ℕ) → ¬ (c ≡ 0) → c ≤ 9007199254740991 → r' < 2 ^ 64
    → total ≡ min (z + r') (2 ^ 64 - 1) → l' ≤ total → total - l' ≤ 15
    → size ≡ min (c * 10 ^ (total - l')) (2 ^ 64 - 1) → Stands c z m → Powers z r' l' r l
    → exact_value negative m r l ≡ number_of (with_sign negative size)
inside negative c z m r' l' r l total size some h fits is order near is_size s p =
    ⊎_elim past small (cases_lt 9007199254740991 size)
  where
    within : Powers z r' l' r l → (l ≤ z + r) × (total - l' ≡ (z + r) - l)
    within (exactly a b d) = (omega arith, omega arith)
    within (above a b) = absurd (omega arith)
    within (below a b) = absurd (omega arith)

    scaled : c * 10 ^ (total - l') ≡ c * 10 ^ ((z + r) - l)
    scaled = ap (λ k. c * 10 ^ k) (within p).1

    product : Stands c z m → size ≡ c * 10 ^ ((z + r) - l) → size * 10 ^ l ≡ m * 10 ^ r
    product (exact i e q) is =
        let joined : ((z + r) - l) + l ≡ z + r = omega (arith, (within p).0) in
        ap (λ k. k * 10 ^ l) is ∙ assoc c (10 ^ ((z + r) - l)) (10 ^ l)
        ∙ ap (λ k. c * k) (sym (pow-add 10 ((z + r) - l) l)) ∙ ap (λ k. c * 10 ^ k) joined
        ∙ ap (λ k. c * k) (pow-add 10 z r) ∙ sym (assoc c (10 ^ z) (10 ^ r)) ∙ ap (λ k. k * 10 ^ r) (sym e)
    product (beyond i g) is = absurd (omega arith)

    past : 9007199254740991 < size → exact_value negative m r l ≡ number_of (with_sign negative size)
    past over =
        no_value negative m r l (λ n e under.
        let w = meant c z m r l n some h s e in let is = w.1 in let k = scaled in absurd (omega arith))
        ∙ sym (too_large (with_sign negative size) (let a = size_of_signed negative size in omega arith))

    small : size ≤ 9007199254740991 → exact_value negative m r l ≡ number_of (with_sign negative size)
    small under =
        let k = scaled in
        let is : size ≡ c * 10 ^ ((z + r) - l) = omega arith in
        value_is negative m r l size (product s is) under
        ∙ sym (number_of_inside (with_sign negative size) (signed_inside negative size under))

-- exponents

raise_sized : (n m : ℕ) → Agree (2 ^ 63) n m → Sized n 0 m 0
raise_sized n m (equal e) =
    ⊎_elim (λ less. known e refl less (omega arith)) (λ more. high (omega arith) more refl refl) (cases_lt m (2 ^ 63))
raise_sized n m (reached a b) = high a b refl refl

lower_sized : (n m : ℕ) → Agree (2 ^ 63) n m → Sized 0 n 0 m
lower_sized n m (equal e) =
    ⊎_elim (λ less. known refl e (omega arith) less) (λ more. low (omega arith) more refl refl) (cases_lt m (2 ^ 63))
lower_sized n m (reached a b) = low a b refl refl

pub raised : (n : ℕ) (ds : List ℕ) → are_digits is_digit ds ≡ true → Agree (2 ^ 63) n (decimal_from 0 ds)
    → IsExponent (Some (record { raise = n; lower = 0 })) (raises ds)
raised n ds e a = ((decimal_from 0 ds, 0), rw e refl, raise_sized n (decimal_from 0 ds) a)

pub lowered : (n : ℕ) (ds : List ℕ) → are_digits is_digit ds ≡ true → Agree (2 ^ 63) n (decimal_from 0 ds)
    → IsExponent (Some (record { raise = 0; lower = n })) (lowers ds)
lowered n ds e a = ((0, decimal_from 0 ds), rw e refl, lower_sized n (decimal_from 0 ds) a)

pub not_raised : (ds : List ℕ) → are_digits is_digit ds ≡ false → raises ds ≡ None
not_raised ds e = rw e refl

pub not_lowered : (ds : List ℕ) → are_digits is_digit ds ≡ false → lowers ds ≡ None
not_lowered ds e = rw e refl

-- hexadecimal numbers

pub agreed_number : (n m : ℕ) → Agree (2 ^ 53) n m → number_of (pos n) ≡ number_of (pos m)
agreed_number n m (equal e) = ap (λ k. number_of (pos k)) e
agreed_number n m (reached a b) = too_large (pos n) a ∙ sym (too_large (pos m) b)

-- the parts of a literal

pub exponent_is : (units : List ℕ) (after : Option (Bor (List ℕ))) (e : Exponent)
    → MatchOption after (list_any is_exponent_letter units ≡ false)
    (λ x. (list_any is_exponent_letter units ≡ true) × (x.now ≡ after_first is_exponent_letter units))
    → MatchOption after (IsExponent (Some e) (Some (0, 0))) (λ x. IsExponent (Some e) (exponent_of x.now))
    → IsExponent (Some e) (exponent_part units)
exponent_is units None e h is = rw h is
exponent_is units (Some x) e h is = rw (h.0) (subst (λ us. IsExponent (Some e) (exponent_of us)) h.1 is)

sized_powers : (z f r' l' r l lower : ℕ) → z < 2 ^ 63 → f < 2 ^ 62 → lower ≡ min (l' + f) (2 ^ 64 - 1) → Sized r' l' r l
    → Powers z r' lower r (f + l)
sized_powers z f r' l' r l lower a b e (known p q x y) = exactly p (omega arith) (omega arith)
sized_powers z f r' l' r l lower a b e (high x y p q) = above (omega arith) (omega arith)
sized_powers z f r' l' r l lower a b e (low x y p q) = below (omega arith) (omega arith)

-- the literal of two parts that were read, and an exponent
pub literal : (negative : Bool) (units whole fraction : List ℕ) (e : Exponent) (c z lower : ℕ) (result : Option Number)
    → bytes_eq units (codes "Infinity") ≡ false → whole ≡ whole_part units → fraction ≡ fraction_part units
    → are_digits is_digit (whole ++ fraction) ≡ true → IsExponent (Some e) (exponent_part units)
    → z < 2 ^ 63 → length fraction < 2 ^ 62 → lower ≡ min (e.lower + length fraction) (2 ^ 64 - 1)
    → Stands c z (decimal_from (decimal_from 0 whole) fraction)
    → ((m r l : ℕ) → Stands c z m → Powers z e.raise lower r l → result ≡ exact_value negative m r l)
    → result ≡ decimal_number negative units
literal negative units whole fraction e c z lower result finite is_whole is_fraction digits x few short is_lower s v =
    let p = x.0 in
    let m = decimal_from 0 (whole ++ fraction) in
    let stands = subst (Stands c z) (sym (decimal_append 0 whole fraction)) s in
    let powers = sized_powers z (length fraction) e.raise e.lower p.0 p.1 lower few short is_lower x.2 in
    v m p.0 (length fraction + p.1) stands powers
    ∙ sym (parts digits) ∙ ap (parts_number negative whole fraction) (sym x.1)
    ∙ ap (λ us. parts_number negative us fraction (exponent_part units)) is_whole
    ∙ ap (λ us. parts_number negative (whole_part units) us (exponent_part units)) is_fraction
    ∙ sym (rw finite refl)
  where
    parts : are_digits is_digit (whole ++ fraction) ≡ true
        → parts_number negative whole fraction (Some x.0) ≡ exact_value negative (decimal_from 0 (whole ++ fraction))
        x.0.0 (length fraction + x.0.1)
    parts h = rw h refl
