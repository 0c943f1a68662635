-- Tests taken apart.
use Rattle.std.proofs.Common.{◌≡◌, refl, ap, ℕ, ◌⊎◌, inl, inr, Bool, true, false, ◌&&◌, ◌||◌, ◌==◌, Option, None, Some}
use Rattle.std.proofs.lemmas.Bool.{eqb-true}
use Rattle.jl_text.proofs.SearchLemmas.{false_unless}

pub or_cases : (a b : Bool) → (a || b) ≡ true → (a ≡ true) ⊎ (b ≡ true)
or_cases true b h = inl refl
or_cases false b h = inr h

pub or_false : (a b : Bool) → (a || b) ≡ false → (a ≡ false) × (b ≡ false)
or_false true b h = absurd cc
or_false false b h = (refl, h)

pub both_false : (a b : Bool) → a ≡ false → b ≡ false → (a || b) ≡ false
both_false a b h g = rw (h, g) refl

pub and_true : (a b : Bool) → (a && b) ≡ true → (a ≡ true) × (b ≡ true)
and_true true b h = (refl, h)
and_true false b h = absurd cc

pub true_or_false : (a : Bool) → (a ≡ true) ⊎ (a ≡ false)
true_or_false true = inl refl
true_or_false false = inr refl

pub never_both : (a : Bool) → a ≡ true → a ≡ false → ⊥
never_both a h g = cc

-- a unit that is a given one
pub is_unit : (u k : ℕ) → (u == k) ≡ true → u ≡ k
is_unit u k h = eqb-true u k h

pub other_unit : (u k : ℕ) → (u ≡ k → ⊥) → (u == k) ≡ false
other_unit u k h = false_unless (u == k) (λ e. h (eqb-true u k e))

-- a pair that is found
first_or : {A B : Type 0} → A → Option (A × B) → A
first_or d None = d
first_or d (Some x) = x.0

second_or : {A B : Type 0} → B → Option (A × B) → B
second_or d None = d
second_or d (Some x) = x.1

pub some_pair : {A B : Type 0} {a b : A} {x y : B} → ◌≡◌ {A = Option (A × B)} (Some (a, x)) (Some (b, y))
    → (a ≡ b) × (x ≡ y)
unfolding first_or second_or
some_pair {A} {B} {a} {b} {x} {y} e = (ap (first_or {A = A} {B = B} a) e, ap (second_or {A = A} {B = B} x) e)
