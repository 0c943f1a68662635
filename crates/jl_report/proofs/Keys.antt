-- Keys of a report are in one order, and equal where each part is.
use Rattle.std.proofs.Common.{◌≡◌, ℕ, ◌+◌, ◌<◌, ◌^◌, Bool, true, false, ◌&&◌, nat_eq, nat_lt, ◌==◌, refl, sym, ap}
use Rattle.std.proofs.Common.{◌∙◌, arith}
use Rattle.std.specs.Ordering.{is_eq, nat_cmp, ordering_then}
use Rattle.std.specs.Prelude.{if◌then◌else◌, cond, Option, Some, unwrap_or}
use Rattle.std.specs.declared.cmp.Ordering.{Ordering}
use Rattle.std.specs.declared.cmp.Ordering.TheVariants.{Less, Equal, Greater}
use Rattle.jl_report.specs.Reports.{Key, by_place, saturate_u64}

pub both_equal : (a b : Ordering) → is_eq (ordering_then a b) ≡ (is_eq a && is_eq b)
both_equal Less b = refl
both_equal Equal b = refl
both_equal Greater b = refl

equal_by : (less same : Bool) → (less ≡ true → same ≡ false)
    → is_eq (if less then Less else (if same then Equal else Greater)) ≡ same
equal_by true same h = sym (h refl)
equal_by false true h = refl
equal_by false false h = refl

less_is_other : (a b : ℕ) → nat_lt a b ≡ true → nat_eq a b ≡ false
less_is_other a b h = grind arith

pub equal : (a b : ℕ) → is_eq (nat_cmp a b) ≡ (a == b)
equal a b = equal_by (nat_lt a b) (nat_eq a b) (less_is_other a b)

-- two keys are equal in the order where their parts are
abbrev pub is_same : Key → Key → Bool
is_same a b = (a.0 == b.0 && a.1 == b.1) && a.2 == b.2

pub same_key : (a b : Key) → is_eq (by_place a b) ≡ is_same a b
same_key a b = both_equal (ordering_then (nat_cmp a.0 b.0) (nat_cmp a.1 b.1)) (nat_cmp a.2 b.2)
    ∙ ap (λ x. x && is_eq (nat_cmp a.2 b.2)) (both_equal (nat_cmp a.0 b.0) (nat_cmp a.1 b.1))
    ∙ ap (λ x. (x && is_eq (nat_cmp a.1 b.1)) && is_eq (nat_cmp a.2 b.2)) (equal a.0 b.0)
    ∙ ap (λ x. (a.0 == b.0 && x) && is_eq (nat_cmp a.2 b.2)) (equal a.1 b.1)
    ∙ ap (λ x. (a.0 == b.0 && a.1 == b.1) && x) (equal a.2 b.2)

same_number : (a b : ℕ) → nat_eq a b ≡ true → a ≡ b
same_number a b h = grind arith

both : (a b : Bool) → a && b ≡ true → (a ≡ true) × (b ≡ true)
both true b e = (refl, e)
both false b e = cc

pub same_is : (a b : Key) → is_same a b ≡ true → a ≡ b
same_is a b h =
    let outer = both (a.0 == b.0 && a.1 == b.1) (a.2 == b.2) h in
    let inner = both (a.0 == b.0) (a.1 == b.1) outer.0 in
    let first = same_number a.0 b.0 inner.0 in
    let second = same_number a.1 b.1 inner.1 in
    let third = same_number a.2 b.2 outer.1 in
    ap (λ x. (x, a.1, a.2)) first ∙ ap (λ x. (b.0, x, a.2)) second ∙ ap (λ x. (b.0, b.1, x)) third

-- the number of what is there after a write
pub written : (b : Bool) (v : ℕ) (o : Option ℕ) → unwrap_or (cond b (Some v) o) 0 ≡ (if b then v else unwrap_or o 0)
written true v o = refl
written false v o = refl

pub not_zero : (b : Bool) (v : ℕ) (o : Option ℕ) → (v ≡ 0 → ⊥) → (o ≡ Some 0 → ⊥) → cond b (Some v) o ≡ Some 0 → ⊥
not_zero true v o h i e = h (cc)
not_zero false v o h i e = i e

-- a number grows by what an entry at its place and rule adds, and else stays
pub grows : (here same : Bool) (n t old before new count : ℕ)
    → new ≡ (if here && same then saturate_u64 (before + count) else old) → (here && same ≡ true → before ≡ old)
    → old ≡ saturate_u64 (n + (if same then t else 0))
    → new ≡ saturate_u64 (n + (if same then t + (if here then count else 0) else 0))
grows true true n t old before new count is one was = omega (arith, one refl)
grows true false n t old before new count is one was = omega arith
grows false true n t old before new count is one was = omega arith
grows false false n t old before new count is one was = omega arith

-- before anything is added
pub starts : (same : Bool) (n : ℕ) → n < 2 ^ 64 → n ≡ saturate_u64 (n + (if same then 0 else 0))
starts true n h = omega arith
starts false n h = omega arith
