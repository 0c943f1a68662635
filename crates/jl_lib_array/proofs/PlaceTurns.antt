-- Turns of loops over elements: the one that begins at a place, and those that follow.
use Rattle.std.proofs.Common.{◌≡◌, ◌+◌, ◌-◌, ◌∙◌, ap, arith, false, length, refl, suc, sym, true, zero}
use Rattle.std.proofs.Common.{Bool, None, Option, Some, ℕ}
use Rattle.std.proofs.lemmas.Bool.Decides.{nat_tests}
use Rattle.std.specs.Prelude.{if◌then◌else◌, nat_lt}
use Rattle.jl_value.specs.declared.value.Value.{Value}
use Rattle.jl_effects.specs.Effects.{Step}
use Rattle.jl_meaning.specs.Parts.{◌>>=◌, Algorithm}
use Rattle.jl_meaning.specs.builtins.Turns.{downward, first_downward, first_upward, or_next, upward}
use Rattle.jl_meaning.proofs.Binds.{bind_assoc}
use Rattle.jl_lib_array.specs.inner.Places.{index_below}

-- the index below a place

pub none_below : (at : ℕ) → at ≡ 0 → None ≡ index_below at
none_below at over = sym (ap index_below over)

pub index_is_below : (at : ℕ) → (at ≡ 0 → ⊥) → Some (at - 1) ≡ index_below at
index_is_below zero more = absurd (more refl)
index_is_below (suc k) more = ap Some (omega arith)

-- the index of a turn that goes up, and how many are left

up_index : (at length k : ℕ) → (if nat_lt at length then Some at else None) ≡ Some k
    → (k ≡ at) × (length - at ≡ suc (length - (at + 1)))
up_index at length k is = by (nat_lt at length) refl is
  where
    by : (b : Bool) → nat_lt at length ≡ b → (if b then Some at else None) ≡ Some k
        → (k ≡ at) × (length - at ≡ suc (length - (at + 1)))
    by true below same = (sym (let e = same in cc), grind (arith, nat_tests))
    by false below same = absurd (let differ = same in cc)

no_index : (at length : ℕ) → (if nat_lt at length then Some at else None) ≡ None → length - at ≡ 0
no_index at length is = by (nat_lt at length) refl is
  where
    by : (b : Bool) → nat_lt at length ≡ b → (if b then Some at else None) ≡ None → length - at ≡ 0
    by true below same = absurd (let differ = same in cc)
    by false below same = grind (arith, nat_tests)

-- a turn that goes up, and those after it
pub upward_turn : {A : Type 0} (turn : ℕ → A → Algorithm A) (l : A → Algorithm Value) (length at k : ℕ) (a : A)
    → (if nat_lt at length then Some at else None) ≡ Some k
    → (upward turn (length - at) at a >>= l)
    ≡ Step (turn k a >>= λ b. upward turn (length - (k + 1)) (k + 1) b >>= l)
upward_turn {A} turn l length at k a is =
    let here = up_index at length k is in
    ap (λ n. upward turn n at a >>= l) here.1
    ∙ ap Step (bind_assoc (turn at a) (λ b. upward turn (length - (at + 1)) (at + 1) b) l)
    ∙ ap (λ i. Step (turn i a >>= λ b. upward turn (length - (i + 1)) (i + 1) b >>= l)) (sym here.0)

pub upward_over : {A : Type 0} (turn : ℕ → A → Algorithm A) (l : A → Algorithm Value) (length at : ℕ) (a : A)
    → (if nat_lt at length then Some at else None) ≡ None → (upward turn (length - at) at a >>= l) ≡ l a
upward_over {A} turn l length at a none = ap (λ n. upward turn n at a >>= l) (no_index at length none)

pub first_upward_turn : {A : Type 0} (turn : ℕ → Algorithm (Option A)) (l : Option A → Algorithm Value)
    (length at k : ℕ) → (if nat_lt at length then Some at else None) ≡ Some k
    → (first_upward turn (length - at) at >>= l)
    ≡ Step (turn k >>= λ found. or_next (first_upward turn (length - (k + 1)) (k + 1)) found >>= l)
first_upward_turn {A} turn l length at k is =
    let here = up_index at length k is in
    ap (λ n. first_upward turn n at >>= l) here.1
    ∙ ap Step (bind_assoc (turn at) (or_next (first_upward turn (length - (at + 1)) (at + 1))) l)
    ∙ ap (λ i. Step (turn i >>= λ found. or_next (first_upward turn (length - (i + 1)) (i + 1)) found >>= l))
    (sym here.0)

pub first_upward_over : {A : Type 0} (turn : ℕ → Algorithm (Option A)) (l : Option A → Algorithm Value) (length at : ℕ)
    → (if nat_lt at length then Some at else None) ≡ None → (first_upward turn (length - at) at >>= l) ≡ l None
first_upward_over {A} turn l length at none = ap (λ n. first_upward turn n at >>= l) (no_index at length none)

-- a turn that goes down, and those after it
pub downward_turn : {A : Type 0} (turn : ℕ → A → Algorithm A) (l : A → Algorithm Value) (k : ℕ) (a : A)
    → (downward turn (suc k) a >>= l) ≡ Step (turn k a >>= λ b. downward turn k b >>= l)
downward_turn {A} turn l k a = ap Step (bind_assoc (turn k a) (λ b. downward turn k b) l)

pub first_downward_turn : {A : Type 0} (turn : ℕ → Algorithm (Option A)) (l : Option A → Algorithm Value) (k : ℕ)
    → (first_downward turn (suc k) >>= l) ≡ Step (turn k >>= λ found. or_next (first_downward turn k) found >>= l)
first_downward_turn {A} turn l k = ap Step (bind_assoc (turn k) (or_next (first_downward turn k)) l)
