-- Digits and the quantities that they make.
use Rattle.std.proofs.Common.{◌≡◌, ℕ, zero, suc, ◌+◌, ◌-◌, ◌*◌, ◌/◌, ◌%◌, ◌^◌, ◌<◌, ◌≤◌, List, [], ◌∷◌}
use Rattle.std.proofs.Common.{◌++◌, true, false, nat_lt, length, Some, ap, sym, subst, refl, ◌∙◌, append_assoc, arith}
use Rattle.std.proofs.Common.{⊎_elim}
use Rattle.std.specs.Prelude.{nat_eq}
use Rattle.std.proofs.lemmas.Bool.{cases_lt}
use Rattle.std.proofs.lemmas.Bool.Decides.{nat_tests}
use Rattle.jl_srcmap.specs.Laws.{AreFewest}
use Rattle.jl_srcmap.specs.Numbers.{digit_value, digit_of, digits_of, digits_within, Digits, last, more}

pub under : (n m : ℕ) → n < m → nat_lt n m ≡ true
under n m h = grind (arith, nat_tests)

pub not_under : (n m : ℕ) → m ≤ n → nat_lt n m ≡ false
not_under n m h = grind (arith, nat_tests)

-- a digit has its value
pub digit_back : (v : ℕ) → v < 64 → digit_value (digit_of v) ≡ Some v
unfolding digit_value digit_of
digit_back v h = grind (arith, nat_tests)

-- a digit is neither a comma nor a semicolon
pub digit_apart : (v : ℕ) → (nat_eq (digit_of v) 44 ≡ false) × (nat_eq (digit_of v) 59 ≡ false)
unfolding digit_of
digit_apart v = (grind (arith, nat_tests), grind (arith, nat_tests))

pub one_digit : (most n : ℕ) → n < 32 → digits_within most n ≡ digit_of n ∷ []
unfolding digits_within
one_digit zero n h = refl
one_digit (suc most) n h = rw (under n 32 h) refl

pub more_digits : (most n : ℕ) → 32 ≤ n
    → digits_within (suc most) n ≡ digit_of (32 + n % 32) ∷ digits_within most (n / 32)
unfolding digits_within
more_digits most n h = rw (not_under n 32 h) refl

below_quotient : (n k : ℕ) → n < 32 ^ suc (suc k) → n / 32 < 32 ^ suc k
below_quotient n k h = let e : 32 ^ suc (suc k) ≡ 32 * 32 ^ suc k = grind arith in omega arith

-- the digits make the quantity
pub digits_make : (most n : ℕ) → n < 32 ^ suc most → Digits (digits_within most n) n
digits_make zero n h =
    let small : n < 32 = omega arith in
    subst (λ l. Digits l n) (sym (one_digit zero n small)) (last (digit_back n (omega arith)) small)
digits_make (suc most) n h =
    ⊎_elim
    (λ small. subst (λ l. Digits l n) (sym (one_digit (suc most) n small)) (last (digit_back n (omega arith)) small))
    (λ large.
    let whole : 32 + n % 32 - 32 + 32 * (n / 32) ≡ n = omega arith in
    subst (λ l. Digits l n) (sym (more_digits most n large))
    (subst (λ m. Digits (digit_of (32 + n % 32) ∷ digits_within most (n / 32)) m) whole
    (more (digit_back (32 + n % 32) (omega arith)) (omega arith)
    (digits_make most (n / 32) (below_quotient n most h)))))
    (cases_lt n 32)

pub few_digits : (most n : ℕ) → length (digits_within most n) ≤ suc most
unfolding digits_within
few_digits zero n = omega arith
few_digits (suc most) n = ⊎_elim
    (λ small. let e = ap length (one_digit (suc most) n small) in omega arith)
    (λ large. let e = ap length (more_digits most n large) in let f = few_digits most (n / 32) in omega arith)
    (cases_lt n 32)

-- one more digit that is allowed changes nothing where there are enough
pub enough_digits : (most n : ℕ) → n < 32 ^ suc most → digits_within most n ≡ digits_within (suc most) n
enough_digits zero n h = let small : n < 32 = omega arith in one_digit zero n small ∙ sym (one_digit 1 n small)
enough_digits (suc most) n h = ⊎_elim
    (λ small. one_digit (suc most) n small ∙ sym (one_digit (suc (suc most)) n small))
    (λ large. more_digits most n large
    ∙ ap (λ l. digit_of (32 + n % 32) ∷ l) (enough_digits most (n / 32) (below_quotient n most h))
    ∙ sym (more_digits (suc most) n large))
    (cases_lt n 32)

-- ---- how large a quantity may be

positive : (m : ℕ) → 1 ≤ 32 ^ m
positive zero = omega arith
positive (suc m) = let e : 32 ^ suc m ≡ 32 * 32 ^ m = grind arith in let p = positive m in omega arith

pub one_bound : (v m : ℕ) → 0 < m → v < 32 → v < 32 ^ m
one_bound v zero some h = absurd (omega arith)
one_bound v (suc m) some h = let e : 32 ^ suc m ≡ 32 * 32 ^ m = grind arith in let p = positive m in omega arith

pub more_bound : (v r m : ℕ) → 0 < m → v < 64 → r < 32 ^ (m - 1) → v - 32 + 32 * r < 32 ^ m
more_bound v r zero some h k = absurd (omega arith)
more_bound v r (suc m) some h k =
    let e : 32 ^ suc m ≡ 32 * 32 ^ m = grind arith in
    let same : suc m - 1 ≡ m = omega arith in
    let less : r < 32 ^ m = subst (λ n. r < 32 ^ n) same k in
    omega arith

power_rises : (m d : ℕ) → 32 ^ m ≤ 32 ^ (d + m)
power_rises m zero = let e : 0 + m ≡ m = omega arith in subst (λ n. 32 ^ m ≤ 32 ^ n) (sym e) (omega arith)
power_rises m (suc d) =
    let e : 32 ^ suc (d + m) ≡ 32 * 32 ^ (d + m) = grind arith in
    let same : suc d + m ≡ suc (d + m) = omega arith in
    let p = power_rises m d in
    subst (λ n. 32 ^ m ≤ 32 ^ n) (sym same) (omega arith)

pub quantity_bound : (r m : ℕ) → m ≤ 7 → r < 32 ^ m → r < 34359738368
quantity_bound r m h k =
    let same : 7 - m + m ≡ 7 = omega arith in
    let p : 32 ^ m ≤ 32 ^ 7 = subst (λ n. 32 ^ m ≤ 32 ^ n) same (power_rises m (7 - m)) in
    omega arith

-- ---- the loop, which writes a digit a turn

pub digits_turn : (text : List ℕ) (n : ℕ) → n < 34359738368 → 32 ≤ n
    → (text ++ digit_of (32 + n % 32) ∷ []) ++ digits_of (n / 32) ≡ text ++ digits_of n
digits_turn text n small large =
    append_assoc text (digit_of (32 + n % 32) ∷ []) (digits_of (n / 32))
    ∙ ap (λ l. text ++ digit_of (32 + n % 32) ∷ l) (sym (enough_digits 5 (n / 32) (omega arith)))
    ∙ ap (λ l. text ++ l) (sym (more_digits 5 n large))

pub digits_end : (text : List ℕ) (n : ℕ) → n < 32 → text ++ digit_of n ∷ [] ≡ text ++ digits_of n
digits_end text n small = ap (λ l. text ++ l) (sym (one_digit 6 n small))

-- ---- no fewer digits make a quantity

digit_small : (c v : ℕ) → digit_value c ≡ Some v → v < 64
unfolding digit_value
digit_small c v e = grind (arith, nat_tests)

fewest : {digits : List ℕ} {n : ℕ} (most : ℕ) → Digits digits n → length (digits_within most n) ≤ length digits
fewest most (last {v = v} d small) = let e = ap length (one_digit most v small) in omega arith
fewest zero (more {c = c} {v = v} {n = m} d l ds) = let f = few_digits zero (v - 32 + 32 * m) in omega arith
fewest (suc most) (more {c = c} {v = v} {n = m} {cs = cs} d l ds) =
    ⊎_elim
    (λ small. let e = ap length (one_digit (suc most) (v - 32 + 32 * m) small) in omega arith)
    (λ large.
    let e = ap length (more_digits most (v - 32 + 32 * m) large) in
    let below = digit_small c v d in
    let same : (v - 32 + 32 * m) / 32 ≡ m = omega arith in
    let others : length (digits_within most ((v - 32 + 32 * m) / 32)) ≤ length cs =
    subst (λ k. length (digits_within most k) ≤ length cs) (sym same) (fewest most ds) in
    omega arith)
    (cases_lt (v - 32 + 32 * m) 32)

pub digits_are_fewest : (digits : List ℕ) (n : ℕ) → Digits digits n → n < 34359738368 → AreFewest digits n
digits_are_fewest digits n ds small = record { make = digits_make 6 n small; fewest = fewest 6 ds }
