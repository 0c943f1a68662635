-- The names of rules as a list, and that no name has two rules.
use Rattle.std.proofs.Common.{◌≡◌, ◌≤◌, ◌<◌, ◌-◌, refl, sym, ap, ◌∙◌, ℕ, zero, suc, Bool, true, false, ◌&&◌, not, List}
use Rattle.std.proofs.Common.{[], ◌∷◌, length, map, Some, arith}
use Rattle.std.specs.Prelude.{slice_get, ◌||◌}
use Rattle.std.specs.List.{list_any}
use Rattle.std.specs.Str.{bytes_eq}
use Rattle.std.proofs.lemmas.Option.{slice_get-map, slice_get_within}
use Rattle.std.proofs.lemmas.List.{length-map}
use Rattle.std.proofs.lemmas.Slice.Eq.{bytes_eq-Decides}
use Rattle.jl_analysis.specs.Rules.{rules, name_at}

-- the names in the order of the rules
abbrev pub rule_names : List (List ℕ)
rule_names = map (λ row. row.name) rules

named_next : (place : ℕ) → name_at (suc place) ≡ slice_get rule_names place
named_next place = sym (slice_get-map (λ row. row.name) rules place)

-- the name of a rule is at the place before its number
pub named : (rule : ℕ) → 1 ≤ rule → name_at rule ≡ slice_get rule_names (rule - 1)
named zero h = absurd (omega arith)
named (suc place) h =
    let before : place ≡ suc place - 1 = omega arith in
    named_next place ∙ ap (slice_get rule_names) before

all_listed : length rules ≡ 20
unfolding rules
all_listed = refl

-- a name is that of one of twenty rules
pub listed : (rule : ℕ) (name : List ℕ) → name_at rule ≡ Some name → rule < 21
listed zero name e = omega arith
listed (suc place) name e =
    let within : place < length rule_names = slice_get_within rule_names place name (sym (named_next place) ∙ e) in
    omega (arith, length-map rules (λ row. row.name), all_listed)

unfoldable all_new : List (List ℕ) → Bool
all_new [] = true
all_new (x ∷ xs) = not (list_any (bytes_eq x) xs) && all_new xs

names_are_new : all_new rule_names ≡ true
unfolding all_new rules
names_are_new = refl

both : (a b : Bool) → a && b ≡ true → (a ≡ true) × (b ≡ true)
both true b e = (refl, e)
both false b e = cc

or_left : (a b : Bool) → a ≡ true → (a || b) ≡ true
or_left true b e = refl
or_left false b e = cc

or_right : (a b : Bool) → b ≡ true → (a || b) ≡ true
or_right true b e = refl
or_right false b e = e

not_both : (b : Bool) → not b ≡ true → b ≡ true → ⊥
not_both true n e = cc
not_both false n e = cc

found : (xs : List (List ℕ)) (place : ℕ) (x : List ℕ) → slice_get xs place ≡ Some x → list_any (bytes_eq x) xs ≡ true
found [] place x e = absurd cc
found (y ∷ xs) zero x e = or_left (bytes_eq x y) (list_any (bytes_eq x) xs) ((bytes_eq-Decides x y).1 cc)
found (y ∷ xs) (suc place) x e = or_right (bytes_eq x y) (list_any (bytes_eq x) xs) (found xs place x e)

not_after : (y x : List ℕ) (xs : List (List ℕ)) (place : ℕ) → not (list_any (bytes_eq y) xs) ≡ true → y ≡ x
    → slice_get xs place ≡ Some x → ⊥
not_after y x xs place n e f = not_both (list_any (bytes_eq y) xs) n (found xs place y (f ∙ ap Some (sym e)))

one_place : (xs : List (List ℕ)) (i j : ℕ) (x : List ℕ) → all_new xs ≡ true → slice_get xs i ≡ Some x
    → slice_get xs j ≡ Some x → i ≡ j
unfolding all_new
one_place [] i j x n e f = absurd cc
one_place (y ∷ xs) zero zero x n e f = refl
one_place (y ∷ xs) zero (suc j) x n e f = absurd (not_after y x xs j (both _ _ n).0 (cc) f)
one_place (y ∷ xs) (suc i) zero x n e f = absurd (not_after y x xs i (both _ _ n).0 (cc) e)
one_place (y ∷ xs) (suc i) (suc j) x n e f = ap suc (one_place xs i j x (both _ _ n).1 e f)

pub one_name : (i j : ℕ) (name : List ℕ) → name_at i ≡ Some name → name_at j ≡ Some name → i ≡ j
one_name zero j name e f = absurd cc
one_name (suc i) zero name e f = absurd cc
one_name (suc i) (suc j) name e f =
    ap suc (one_place rule_names i j name names_are_new (sym (named_next i) ∙ e) (sym (named_next j) ∙ f))
