-- `comes_before` orders early errors by three numbers: the kind, the place, and the number of the rule.
use Rattle.std.proofs.Common.{◌≡◌, ℕ, Bool, true, false, ◌&&◌, ◌||◌, nat_lt, nat_eq, List, [], ◌∷◌, Option, Some}
use Rattle.std.proofs.Common.{cond, refl, sym, ◌∙◌, ap, subst, inl, inr, arith}
use Rattle.std.proofs.lemmas.Bool.Decides.{nat_tests}
use Rattle.jl_scope.specs.Kinds.{EarlyError, early, left_out, reserved_name, comes_before, first_from, sooner}
use Rattle.jl_scope.specs.Laws.{IsOneOf, NoneComesBefore, IsFirst, FirstComesFirst}
use Rattle.jl_scope.specs.Rules.{rule_number}

abbrev kind : EarlyError → ℕ
kind (early r s) = 0
kind (left_out x s) = 1
kind (reserved_name s) = 2

abbrev place : EarlyError → ℕ
place (early r s) = s.from
place (left_out x s) = s.from
place (reserved_name s) = s.from

abbrev number : EarlyError → ℕ
number (early r s) = rule_number r
number (left_out x s) = 0
number (reserved_name s) = 0

abbrev less : (k l i j m n : ℕ) → Bool
less k l i j m n = nat_lt k l || (nat_eq k l && (nat_lt i j || (nat_eq i j && nat_lt m n)))

no_number : (a b : Bool) → a ≡ (a || (b && false))
no_number true b = refl
no_number false true = refl
no_number false false = refl

by_numbers : (x y : EarlyError) → comes_before x y ≡ less (kind x) (kind y) (place x) (place y) (number x) (number y)
by_numbers (early r s) (early q t) = refl
by_numbers (early r s) (left_out y t) = refl
by_numbers (early r s) (reserved_name t) = refl
by_numbers (left_out x s) (early q t) = refl
by_numbers (left_out x s) (left_out y t) = no_number (nat_lt s.from t.from) (nat_eq s.from t.from)
by_numbers (left_out x s) (reserved_name t) = refl
by_numbers (reserved_name s) (early q t) = refl
by_numbers (reserved_name s) (left_out y t) = refl
by_numbers (reserved_name s) (reserved_name t) = no_number (nat_lt s.from t.from) (nat_eq s.from t.from)

less_itself : (k i m : ℕ) → less k k i i m m ≡ false
less_itself k i m = grind (arith, nat_tests)

less_behind : (k l h i j o m n p : ℕ) → less k l i j m n ≡ true → less k h i o m p ≡ false → less l h j o n p ≡ false
less_behind k l h i j o m n p a b = grind (arith, nat_tests)

less_not : (k l h i j o m n p : ℕ) → less k l i j m n ≡ false → less l h j o n p ≡ false → less k h i o m p ≡ false
less_not k l h i j o m n p a b = grind (arith, nat_tests)

itself : (a : EarlyError) → comes_before a a ≡ false
itself a = by_numbers a a ∙ less_itself (kind a) (place a) (number a)

behind : (b a r : EarlyError) → comes_before b a ≡ true → comes_before b r ≡ false → comes_before a r ≡ false
behind b a r p q =
    by_numbers a r ∙ less_behind (kind b) (kind a) (kind r) (place b) (place a) (place r) (number b) (number a)
    (number r)
    (sym (by_numbers b a) ∙ p) (sym (by_numbers b r) ∙ q)

not_before : (b a r : EarlyError) → comes_before b a ≡ false → comes_before a r ≡ false → comes_before b r ≡ false
not_before b a r p q =
    by_numbers b r ∙ less_not (kind b) (kind a) (kind r) (place b) (place a) (place r) (number b) (number a) (number r)
    (sym (by_numbers b a) ∙ p) (sym (by_numbers a r) ∙ q)

-- o is the first of a list, a being its prefix
abbrev IsFirstFound : EarlyError → List EarlyError → Option EarlyError → Type 0
IsFirstFound a l o = (r : EarlyError) × (o ≡ Some r) × IsOneOf r (a ∷ l) × NoneComesBefore r (a ∷ l)

taken : (a b : EarlyError) (l : List EarlyError) → comes_before b a ≡ true →
    IsFirstFound b l (first_from (Some b) l) → IsFirstFound a (b ∷ l) (first_from (sooner (Some a) b) l)
taken a b l p h =
    (h.0, ap (λ t. first_from (cond t (Some b) (Some a)) l) p ∙ h.1, inr h.2, (behind b a h.0 p h.3.0, h.3))

passed : (a b : EarlyError) (l : List EarlyError) → comes_before b a ≡ false →
    IsFirstFound a l (first_from (Some a) l) → IsFirstFound a (b ∷ l) (first_from (sooner (Some a) b) l)
passed a b l p h = (
  h.0,
  ap (λ t. first_from (cond t (Some b) (Some a)) l) p ∙ h.1,
  skip h.0 h.2,
  (h.3.0, (not_before b a h.0 p h.3.0, h.3.1)),
)
  where
    skip : (r : EarlyError) → IsOneOf r (a ∷ l) → IsOneOf r (a ∷ b ∷ l)
    skip r (inl e) = inl e
    skip r (inr m) = inr (inr m)

first_found : (a : EarlyError) (l : List EarlyError) → IsFirstFound a l (first_from (Some a) l)
first_found a [] = (a, refl, inl refl, (itself a, tt))
first_found a (b ∷ l) = by (comes_before b a) refl (first_found b l) (first_found a l)
  where
    by : (t : Bool) → comes_before b a ≡ t → IsFirstFound b l (first_from (Some b) l) →
        IsFirstFound a l (first_from (Some a) l) → IsFirstFound a (b ∷ l) (first_from (sooner (Some a) b) l)
    by true p h g = taken a b l p h
    by false p h g = passed a b l p g

pub first_first : FirstComesFirst
first_first [] = refl
first_first (a ∷ l) =
    let h = first_found a l in
    let P : Option EarlyError → Type 0 = λ o. IsFirst (a ∷ l) o in
    subst P (sym h.1) (h.2, h.3)
