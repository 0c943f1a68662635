-- A list stays well kept, and what it is after a change.
use Rattle.std.proofs.Common.{◌≡◌, sym, ap, ◌∙◌, inl, ℕ, ◌+◌, ◌<◌, ◌≤◌, cond, List, [], ◌∷◌, ◌++◌, Some, length}
use Rattle.std.proofs.Common.{drop, arith, length-append}
use Rattle.std.specs.Prelude.{◌⊎◌, IsNone}
use Rattle.std.specs.BTreeMap.{BTreeMap, get, is_at}
use Rattle.std.specs.Cmp.Lexicographic.{slice_cmp}
use Rattle.std.specs.List.{position_from}
use Rattle.std.specs.Option.{option_map}
use Rattle.std.specs.Ordering.{nat_cmp}
use Rattle.std.proofs.Math.ListN.{get_or, set}
use Rattle.std.proofs.lemmas.List.{drop_more, length-map}
use Rattle.std.proofs.lemmas.Map.Text.{is_eq-slice_cmp}
use Rattle.std.proofs.lemmas.Option.{get_or_from_slice_get}
use Rattle.jl_named.specs.declared.named_list.Named.{Named}
use Rattle.jl_named.specs.Named.{has_name, item_named, with_item}
use Rattle.jl_named.specs.inner.Placed.{place_of, IsKept}
use Rattle.jl_named.proofs.PlaceLemmas.{none_named, place_pushed, place_written, pushed_apart, stands, written_apart}

-- the item at the place of a name is what is found under it
pub found : {T : Type 0} (name : List ℕ) (xs : List (Named T)) (at : ℕ) (e : Named T) → place_of name xs ≡ Some at
    → e ≡ get_or xs at e → Some e.item ≡ item_named name xs
found {T} name xs at e is here =
    let s = stands name xs at is in
    ap (λ (x : Named T). Some x.item) (here ∙ get_or_from_slice_get xs at s.entry e s.held)
    ∙ sym (ap (option_map (λ (x : Named T). x.item)) s.found)

-- an item is written at the place of its name
pub written : {T : Type 0} (name : List ℕ) (xs : List (Named T)) (places : BTreeMap (List ℕ) ℕ) (at : ℕ) (e : Named T)
    (w : T)
    → IsKept xs places → place_of name xs ≡ Some at → e ≡ get_or xs at e
    → (set xs at (record e { item = w }) ≡ with_item xs name w) × IsKept (set xs at (record e { item = w })) places
written {T} name xs places at e w kept is here =
    let s = stands name xs at is in
    let same : e ≡ s.entry = here ∙ get_or_from_slice_get xs at s.entry e s.held in
    let all : set xs at (record e { item = w }) ≡ with_item xs name w =
    ap (λ (x : Named T). set xs at (record x { item = w })) same ∙ s.written w kept.apart in (
      all,
      rw all (record {
        apart = written_apart xs name w kept.apart;
        placed = λ many q. kept.placed (rw length-map at many) q ∙ sym (place_written q name w xs 0);
      }),
    )

-- an item comes last
pub pushed : {T : Type 0} (xs : List (Named T)) (e : Named T) (places : BTreeMap (List ℕ) ℕ)
    → (old : BTreeMap (List ℕ) ℕ) → IsKept xs old → IsNone (item_named e.name xs)
    → (8 ≤ length xs → (q : List ℕ) → get (slice_cmp nat_cmp) places q
    ≡ cond (is_at (slice_cmp nat_cmp e.name) q) (Some (length xs)) (place_of q xs))
    → IsKept (xs ++ e ∷ []) places
pushed {T} xs e places old kept none updates = record {
  apart = pushed_apart xs e kept.apart none;
  placed = λ many q.
      updates (omega (arith, many, length-append xs (e ∷ []))) q
      ∙ ap (λ b. cond b (Some (length xs)) (place_of q xs)) (is_eq-slice_cmp e.name q)
      ∙ ap (λ n. cond (has_name q e) (Some n) (place_of q xs)) (omega arith)
      ∙ place_pushed q e xs 0 (none_named e.name xs none);
}

-- the places of the items from `at` on, once that of the item before is there too
pub placed_before : {T : Type 0} (xs : List (Named T)) (at : ℕ) (e : Named T) (places more : BTreeMap (List ℕ) ℕ)
    → at < length xs → e ≡ get_or xs at e
    → ((q : List ℕ) → get (slice_cmp nat_cmp) places q ≡ position_from (has_name q) (at + 1) (drop (at + 1) xs))
    → ((q : List ℕ) → get (slice_cmp nat_cmp) more q
    ≡ cond (is_at (slice_cmp nat_cmp e.name) q) (Some at) (get (slice_cmp nat_cmp) places q))
    → (q : List ℕ) → get (slice_cmp nat_cmp) more q ≡ position_from (has_name q) at (drop at xs)
placed_before {T} xs at e places more within here placed updates q =
    updates q
    ∙ ap (cond (is_at (slice_cmp nat_cmp e.name) q) (Some at)) (placed q)
    ∙ ap (λ b. cond b (Some at) (position_from (has_name q) (at + 1) (drop (at + 1) xs))) (is_eq-slice_cmp e.name q)
    ∙ ap (λ (x : Named T). position_from (has_name q) at (x ∷ drop (at + 1) xs)) here
    ∙ ap (position_from (has_name q) at) (sym (drop_more xs at e within))

-- what a lender ends as, where two functions of what is written last are the same
pub ends_alike : {N A B C : Type 0} {name : N} {f g : A → B} → ((w : A) → f w ≡ g w)
    → ◌≡◌ {A = (N × (A → B)) ⊎ C} (inl (name, f)) (inl (name, g))
ends_alike {name = name} same = λ i. inl (name, λ w. same w i)
