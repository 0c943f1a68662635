-- Changes that are left of a list of steps.
use Rattle.std.proofs.Common.{◌≡◌, ◌∙◌, ℕ, ◌+◌, ◌<◌, true, Bool, List, ◌∷◌, ap, add-one, drop, drop-cons, get_or}
use Rattle.std.proofs.Common.{length}
use Rattle.std.proofs.Common.{subst, sym}
use Rattle.std.specs.List.{flat_map, list_all}
use Rattle.jl_meaning.specs.Changes.{StoreChange}
use Rattle.jl_meaning.specs.Store.{Store}
use Rattle.jl_realm.specs.inner.Steps.{all_ready, after_all}
use Rattle.jl_realm.proofs.Making.{apart, after_all-append, ready-append}

-- these are left to take, and come from a store to another
pub record Left {X : Type 0} (f : X → List StoreChange) (end : Store) (xs : List X) (s : Store) : Type 0 where
  pub ready : all_ready (flat_map f xs) s ≡ true
  pub comes : after_all (flat_map f xs) s ≡ end

module _ {X : Type 0} {f : X → List StoreChange} {end s : Store} {x : X} {xs : List X}
    (left : Left f end (x ∷ xs) s) where
  pub next_ready : all_ready (f x) s ≡ true
  next_ready = (apart _ _ (sym (ready-append (f x) (flat_map f xs) s) ∙ left.ready)).0

  pub next_left : (t : Store) → t ≡ after_all (f x) s → Left f end xs t
  next_left t taken = record {
    ready =
        ap (all_ready (flat_map f xs)) taken
        ∙ (apart _ _ (sym (ready-append (f x) (flat_map f xs) s) ∙ left.ready)).1;
    comes =
        ap (after_all (flat_map f xs)) taken
        ∙ sym (after_all-append (f x) (flat_map f xs) s)
        ∙ left.comes;
  }

-- items of a list, from one of them on
split_at : {X : Type 0} (i : ℕ) (xs : List X) (d : X) → i < length xs → drop i xs ≡ get_or xs i d ∷ drop (i + 1) xs
split_at i xs d within = drop-cons xs i d within ∙ ap (λ k. get_or xs i d ∷ drop k xs) (sym (add-one i))

pub items_left : {X : Type 0} {f : X → List StoreChange} {end s : Store} (i : ℕ) (xs : List X) (d : X) → i < length xs
    → Left f end (drop i xs) s → Left f end (get_or xs i d ∷ drop (i + 1) xs) s
items_left {X} {f} {end} {s} i xs d within left = subst (λ l. Left f end l s) (split_at i xs d within) left

pub all_after : {X : Type 0} (test : X → Bool) (i : ℕ) (xs : List X) (d : X) → i < length xs
    → list_all test (drop i xs) ≡ true → list_all test (drop (i + 1) xs) ≡ true
all_after test i xs d within all =
    let split : list_all test (get_or xs i d ∷ drop (i + 1) xs) ≡ true =
    subst (λ l. list_all test l ≡ true) (split_at i xs d within) all in
    (apart (test (get_or xs i d)) (list_all test (drop (i + 1) xs)) split).1
