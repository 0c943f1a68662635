-- A list before and after the first unit that passes a test, and its units by their places.
use Rattle.std.proofs.Common.{◌≡◌, refl, sym, ◌∙◌, ℕ, zero, suc, ◌+◌, ◌<◌, ◌≤◌, Bool, true, false, not, ◌||◌, ◌&&◌}
use Rattle.std.proofs.Common.{nat_lt, cond, List, [], ◌∷◌, ◌++◌, length, get_or, Some, None, arith}
use Rattle.std.proofs.lemmas.Bool.Decides.{nat_tests}
use Rattle.std.proofs.lemmas.List.{length-take, length-drop}
use Rattle.std.proofs.lemmas.List.Folds.{list_all-append}
use Rattle.std.proofs.lemmas.List.Sums.{prefix_len-le-length}
use Rattle.std.specs.List.{position_or_len, before_first, after_first, list_any, list_all}
use Rattle.jl_conv.specs.Numerals.{are_digits}

pub found : (p : ℕ → Bool) (xs : List ℕ) (i : ℕ)
    → cond (nat_lt (position_or_len p xs) (length xs)) (Some (position_or_len p xs)) None ≡ Some i
    → (position_or_len p xs ≡ i) × (i < length xs)
found p xs i e = by_test (nat_lt (position_or_len p xs) (length xs)) refl e
  where
    by_test : (t : Bool) → nat_lt (position_or_len p xs) (length xs) ≡ t → cond t (Some (position_or_len p xs)) None
        ≡ Some i
        → (position_or_len p xs ≡ i) × (i < length xs)
    by_test true h e = let is : position_or_len p xs ≡ i = cc in (is, grind (arith, nat_tests))
    by_test false h e = absurd cc

pub not_found : (p : ℕ → Bool) (xs : List ℕ)
    → cond (nat_lt (position_or_len p xs) (length xs)) (Some (position_or_len p xs)) None ≡ None
    → position_or_len p xs ≡ length xs
not_found p xs e = by_test (nat_lt (position_or_len p xs) (length xs)) refl e
  where
    by_test : (t : Bool) → nat_lt (position_or_len p xs) (length xs) ≡ t → cond t (Some (position_or_len p xs)) None
        ≡ None
        → position_or_len p xs ≡ length xs
    by_test true h e = absurd cc
    by_test false h e =
        let le : position_or_len p xs ≤ length xs = prefix_len-le-length (λ x. not (p x)) xs in
        let ge : length xs ≤ position_or_len p xs = grind (arith, nat_tests) in omega arith

passes_by : (t b : Bool) (n k : ℕ) → (n < k → b ≡ true) → cond (not t) (1 + n) 0 < 1 + k → (t || b) ≡ true
passes_by true b n k f h = refl
passes_by false b n k f h = f (omega arith)

pub some_passes : (p : ℕ → Bool) (xs : List ℕ) → position_or_len p xs < length xs → list_any p xs ≡ true
some_passes p [] h = absurd (omega arith)
some_passes p (x ∷ xs) h =
    passes_by (p x) (list_any p xs) (position_or_len p xs) (length xs) (some_passes p xs) (omega arith)

fails_by : (t b : Bool) (n k : ℕ) → (n ≡ k → b ≡ false) → cond (not t) (1 + n) 0 ≡ 1 + k → (t || b) ≡ false
fails_by true b n k f h = absurd (omega arith)
fails_by false b n k f h = f (omega arith)

pub none_passes : (p : ℕ → Bool) (xs : List ℕ) → position_or_len p xs ≡ length xs → list_any p xs ≡ false
none_passes p [] h = refl
none_passes p (x ∷ xs) h =
    fails_by (p x) (list_any p xs) (position_or_len p xs) (length xs) (none_passes p xs) (omega arith)

pub both : (s t : Bool) → (s && t) ≡ true → (s ≡ true) × (t ≡ true)
both true true e = (refl, refl)
both true false e = absurd cc
both false t e = absurd cc

pub passes_at : (p : ℕ → Bool) (xs : List ℕ) (i : ℕ) → list_all p xs ≡ true → i < length xs → p (get_or xs i 0) ≡ true
passes_at p [] i a h = absurd (omega arith)
passes_at p (x ∷ xs) zero a h = (both (p x) (list_all p xs) a).0
passes_at p (x ∷ xs) (suc i) a h = passes_at p xs i (both (p x) (list_all p xs) a).1 (omega arith)

-- what is before the first that passes and what is after it are no more than all
pub split_length : (p : ℕ → Bool) (xs : List ℕ) → length (before_first p xs) + length (after_first p xs) ≤ length xs
split_length p xs =
    let front = length-take (position_or_len p xs) xs in
    let back = length-drop (position_or_len p xs + 1) xs in omega arith

pub before_length : (p : ℕ → Bool) (xs : List ℕ) → length (before_first p xs) ≤ length xs
before_length p xs = let front = length-take (position_or_len p xs) xs in omega arith

-- units that are digits, in two parts
pub all_digits : (p : ℕ → Bool) (xs ys : List ℕ) → ¬ (length xs + length ys ≡ 0)
    → are_digits p (xs ++ ys) ≡ (list_all p xs && list_all p ys)
all_digits p [] [] some = absurd (some refl)
all_digits p [] (y ∷ ys) some = refl
all_digits p (x ∷ xs) ys some = list_all-append p (x ∷ xs) ys

pub both_digits : (p : ℕ → Bool) (xs ys : List ℕ) → ¬ (length xs + length ys ≡ 0) → list_all p xs ≡ true
    → are_digits p (xs ++ ys) ≡ list_all p ys
both_digits p xs ys some h = all_digits p xs ys some ∙ rw h refl

pub first_bad : (p : ℕ → Bool) (xs ys : List ℕ) → ¬ (length xs + length ys ≡ 0) → list_all p xs ≡ false
    → are_digits p (xs ++ ys) ≡ false
first_bad p xs ys some h = all_digits p xs ys some ∙ rw h refl

pub second_digits : (p : ℕ → Bool) (xs ys : List ℕ) → are_digits p (xs ++ ys) ≡ true → list_all p ys ≡ true
second_digits p [] [] h = refl
second_digits p [] (y ∷ ys) h = h
second_digits p (x ∷ xs) ys h =
    (both (list_all p (x ∷ xs)) (list_all p ys) (sym (list_all-append p (x ∷ xs) ys) ∙ h)).1
