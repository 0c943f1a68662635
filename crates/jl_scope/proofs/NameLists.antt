-- The names in a set, and the lists that it stands for.
use Rattle.std.proofs.Common.{◌≡◌, ℕ, Bool, true, false, ◌||◌, List, [], ◌∷◌, map, ap, refl, sym, ◌∙◌}
use Rattle.std.specs.List.{list_any}
use Rattle.std.specs.Ordering.{is_eq, nat_cmp, match_ordering}
use Rattle.std.specs.Cmp.Lexicographic.{slice_cmp}
use Rattle.std.specs.declared.cmp.Ordering.{Ordering}
use Rattle.std.specs.declared.cmp.Ordering.TheVariants.{Less, Equal, Greater}
use Rattle.std.specs.BTreeSet.{insert_key}
use Rattle.std.proofs.lemmas.Map.Text.{is_eq-slice_cmp}
use Rattle.std.proofs.lemmas.Map.Lookups.{exact_bytes}
use Rattle.std.proofs.lemmas.Slice.Eq.{bytes_eq-Decides}
use denote.Ref.{Bor}
use Rattle.jl_ast.specs.Tree.{Text}
use Rattle.jl_scope.specs.Names.{same_text, among, with_name}
use Rattle.jl_scope.specs.NameSets.{SameNames}
use Rattle.jl_scope.proofs.Binding.{with_one, there_already}

-- what the set answers of a name
pub among_keys : (x : Text) (ks : List (Bor (List ℕ))) →
    list_any (λ k. is_eq (slice_cmp nat_cmp x k.now)) ks ≡ among x (map (λ k. k.now) ks)
among_keys x [] = refl
among_keys x (k ∷ ks) =
    ap (λ b. b || list_any (λ k. is_eq (slice_cmp nat_cmp x k.now)) ks) (is_eq-slice_cmp x k.now)
    ∙ ap (λ b. same_text x k.now || b) (among_keys x ks)

or_swap : (a b c : Bool) → (a || (b || c)) ≡ ((a || b) || c)
or_swap true b c = refl
or_swap false b c = refl

pub or_comm : (a b : Bool) → (a || b) ≡ (b || a)
or_comm true true = refl
or_comm true false = refl
or_comm false true = refl
or_comm false false = refl

same_itself : (x : Text) → same_text x x ≡ true
same_itself x = (bytes_eq-Decides x x).1 refl

abbrev by_units : Bor (List ℕ) → Bor (List ℕ) → Ordering
by_units x y = slice_cmp nat_cmp x.now y.now

-- one more name in the order of the set
pub insert_among : (x : Text) (ks : List (Bor (List ℕ))) (k : Bor (List ℕ)) →
    among x (map (λ n. n.now) (insert_key by_units ks k)) ≡ (among x (map (λ n. n.now) ks) || same_text x k.now)
insert_among x [] k = or_comm (same_text x k.now) false
insert_among x (y ∷ ks) k = by (by_units k y) refl (insert_among x ks k) where
  by : (o : Ordering) → by_units k y ≡ o →
      among x (map (λ n. n.now) (insert_key by_units ks k)) ≡ (among x (map (λ n. n.now) ks) || same_text x k.now) →
      among x (map (λ n. n.now) (match_ordering o (k ∷ y ∷ ks) (y ∷ ks) (y ∷ insert_key by_units ks k)))
      ≡ ((same_text x y.now || among x (map (λ n. n.now) ks)) || same_text x k.now)
  by Less e more = or_comm (same_text x k.now) (same_text x y.now || among x (map (λ n. n.now) ks))
  by Equal e more =
      there_already x k.now (y.now ∷ map (λ n. n.now) ks)
      (ap (λ z. same_text z y.now || among z (map (λ n. n.now) ks)) (exact_bytes k.now y.now e)
      ∙ ap (λ b. b || among y.now (map (λ n. n.now) ks)) (same_itself y.now))
  by Greater e more =
      ap (λ b. same_text x y.now || b) more
      ∙ or_swap (same_text x y.now) (among x (map (λ n. n.now) ks)) (same_text x k.now)

-- a name is among those of the set after one more as it is in the list
pub inserted_same : (ks : List (Bor (List ℕ))) (k : Bor (List ℕ)) →
    SameNames (map (λ n. n.now) (insert_key by_units ks k)) (with_name (map (λ n. n.now) ks) k.now)
inserted_same ks k x = insert_among x ks k ∙ sym (with_one x k.now (map (λ n. n.now) ks))

-- one more name keeps lists the same
pub with_name_same : (x : Text) (a b : List Text) → SameNames a b → SameNames (with_name a x) (with_name b x)
with_name_same x a b same z =
    with_one z x a ∙ ap (λ t. t || same_text z x) (same z) ∙ sym (with_one z x b)
