-- Keys of births are in one order, and equal in it only where they are the same.
use Rattle.std.proofs.Common.{◌≡◌, ℕ, Bool, true, false, ◌&&◌, nat_eq, nat_lt, ◌==◌, refl, sym, ap, ◌∙◌, arith}
use Rattle.std.proofs.lemmas.Cmp.{nat_cmp_total, on_total, then_total}
use Rattle.std.specs.Cmp.{IsTotalOrder}
use Rattle.std.specs.Ordering.{is_eq, nat_cmp, ordering_then}
use Rattle.std.specs.Prelude.{if◌then◌else◌}
use Rattle.std.specs.declared.cmp.Ordering.{Ordering}
use Rattle.std.specs.declared.cmp.Ordering.TheVariants.{Less, Equal, Greater}
use Rattle.jl_profile.specs.Births.{Key, by_place, way_number}
use Rattle.jl_profile.specs.contracts.births.WayOrd.TheImpl.{ghosts as by_way}
use Rattle.jl_profile.specs.declared.births.Way.{Way}
use Rattle.jl_profile.specs.declared.births.Way.TheVariants as ways

-- ways are ordered as their numbers are
way_order : (a b : Way) → by_way.cmp a b ≡ nat_cmp (way_number a) (way_number b)
way_order ways.Array ways.Array = refl
way_order ways.Array ways.Object = refl
way_order ways.Array ways.Function = refl
way_order ways.Array ways.New = refl
way_order ways.Object ways.Array = refl
way_order ways.Object ways.Object = refl
way_order ways.Object ways.Function = refl
way_order ways.Object ways.New = refl
way_order ways.Function ways.Array = refl
way_order ways.Function ways.Object = refl
way_order ways.Function ways.Function = refl
way_order ways.Function ways.New = refl
way_order ways.New ways.Array = refl
way_order ways.New ways.Object = refl
way_order ways.New ways.Function = refl
way_order ways.New ways.New = refl

-- the order of the code's keys
abbrev pub code_order : Key → Key → Ordering
code_order a b = ordering_then (ordering_then (nat_cmp a.0 b.0) (nat_cmp a.1 b.1)) (by_way.cmp a.2 b.2)

pub same_order : code_order ≡ by_place
same_order = λ j a b.
    ordering_then (ordering_then (nat_cmp a.0 b.0) (nat_cmp a.1 b.1)) (way_order a.2 b.2 j)

pub by_place_total : IsTotalOrder by_place
by_place_total =
    then_total (then_total (on_total (λ (k : Key). k.0) nat_cmp_total) (on_total (λ (k : Key). k.1) nat_cmp_total))
    (on_total (λ (k : Key). way_number k.2) nat_cmp_total)

both_equal : (a b : Ordering) → is_eq (ordering_then a b) ≡ (is_eq a && is_eq b)
both_equal Less b = refl
both_equal Equal b = refl
both_equal Greater b = refl

equal_by : (less same : Bool) → (less ≡ true → same ≡ false)
    → is_eq (if less then Less else (if same then Equal else Greater)) ≡ same
equal_by true same h = sym (h refl)
equal_by false true h = refl
equal_by false false h = refl

less_is_other : (a b : ℕ) → nat_lt a b ≡ true → nat_eq a b ≡ false
less_is_other a b h = grind arith

same_number : (a b : ℕ) → is_eq (nat_cmp a b) ≡ true → a ≡ b
same_number a b h =
    let same : nat_eq a b ≡ true = sym (equal_by (nat_lt a b) (nat_eq a b) (less_is_other a b)) ∙ h in grind arith

both : (a b : Bool) → a && b ≡ true → (a ≡ true) × (b ≡ true)
both true b e = (refl, e)
both false b e = absurd (cc)

-- a way by its number
way_with : ℕ → Way
way_with n = if n == 0 then ways.Array else if n == 1 then ways.Object else if n == 2 then ways.Function else ways.New

with_number : (way : Way) → way_with (way_number way) ≡ way
unfolding way_with
with_number ways.Array = refl
with_number ways.Object = refl
with_number ways.Function = refl
with_number ways.New = refl

-- keys that are equal in the order are the same
pub same_key : (a b : Key) → is_eq (by_place a b) ≡ true → a ≡ b
same_key a b h =
    let outer = both (is_eq (ordering_then (nat_cmp a.0 b.0) (nat_cmp a.1 b.1)))
    (is_eq (nat_cmp (way_number a.2) (way_number b.2)))
    (sym (both_equal (ordering_then (nat_cmp a.0 b.0) (nat_cmp a.1 b.1)) (nat_cmp (way_number a.2) (way_number b.2)))
    ∙ h) in
    let inner = both (is_eq (nat_cmp a.0 b.0)) (is_eq (nat_cmp a.1 b.1))
    (sym (both_equal (nat_cmp a.0 b.0) (nat_cmp a.1 b.1)) ∙ outer.0) in
    let first = same_number a.0 b.0 inner.0 in
    let second = same_number a.1 b.1 inner.1 in
    let third : a.2 ≡ b.2 =
    sym (with_number a.2) ∙ ap way_with (same_number (way_number a.2) (way_number b.2) outer.1) ∙ with_number b.2 in
    λ j. (first j, second j, third j)
