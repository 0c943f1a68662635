-- A list of which the first items are woven, and the others not yet.
use Rattle.std.proofs.Common.{◌≡◌, ◌∙◌, ap, arith, refl, sym, ℕ, ◌+◌, ◌<◌, suc, List, [], ◌∷◌, ◌++◌, drop, get_or}
use Rattle.std.proofs.Common.{add-one, drop-cons, length, ap₂}
use Rattle.std.proofs.lemmas.List.{drop_all}
use Rattle.jl_text.specs.declared.span.Span.{Span}
use Rattle.jl_ast.specs.Tree as tree
use Rattle.jl_ast.specs.Tree.{Forest, Sort, Tree}
use Rattle.jl_op.specs.Chosen.{Kinds}
use Rattle.jl_op.specs.Ids.{forest_id_count, forest_with_ids, id_count}
use Rattle.jl_simulation.specs.HookCalls.{Woven}
use Rattle.jl_simulation.specs.Weaving.{woven_forest}
use Rattle.jl_weave.specs.inner.Bare.{bare_all}
use Rattle.jl_weave.specs.inner.Forms.{append_forest}
use Rattle.jl_weave.specs.inner.Woven.{HasIds}
use Rattle.jl_weave.proofs.Weaves.{Weaves}

-- how items are seen: one of them and a list of them, and one without its places
pub record Seen (A : Type 0) (x : Sort) : Type 0 where
  pub one : A → Tree Span x
  pub all : List A → Forest Span x
  pub bare : A → Woven x
  pub none : all [] ≡ tree.end
  pub next : (a : A) (l : List A) → all (a ∷ l) ≡ tree.more (one a) (all l)

-- the first k items of the list are woven and stand in `made`, after others, and the rest takes the ids from `next` on
pub record Halfway (chosen : Kinds) {A : Type 0} {x : Sort} (seen : Seen A x) (first : Forest (Unit {0}) x) (l : List A)
    (made : List A) (k from next : ℕ) : Type 0 where
  pub so_far : append_forest (bare_all seen.bare made)
      (woven_forest chosen (forest_with_ids next (seen.all (drop k l))))
      ≡ append_forest first (woven_forest chosen (forest_with_ids from (seen.all l)))
  pub counted : next + forest_id_count (seen.all (drop k l)) ≡ from + forest_id_count (seen.all l)

joined_one : {A : Type 0} {x : Sort} (bare : A → Woven x) (l : List A) (b : A) (r : Forest (Unit {0}) x) →
    append_forest (bare_all bare (l ++ b ∷ [])) r ≡ append_forest (bare_all bare l) (tree.more (bare b) r)
joined_one bare [] b r = refl
joined_one bare (a ∷ l) b r = ap (tree.more (bare a)) (joined_one bare l b r)

joined_end : {x : Sort} (l : Forest (Unit {0}) x) → append_forest l tree.end ≡ l
joined_end tree.end = refl
joined_end (tree.more t l) = ap (tree.more t) (joined_end l)

module _ (chosen : Kinds) {A : Type 0} {x : Sort} (seen : Seen A x) where
  pub at_first : (first : Forest (Unit {0}) x) (l made : List A) (from : ℕ) → bare_all seen.bare made ≡ first →
      Halfway chosen seen first l made 0 from from
  at_first first l made from e = record {
    so_far = ap (λ f. append_forest f (woven_forest chosen (forest_with_ids from (seen.all l)))) e;
    counted = refl;
  }

  -- the item at k, and those after it
  split : (l : List A) (k : ℕ) (a : A) → k < length l → a ≡ get_or l k a →
      seen.all (drop k l) ≡ tree.more (seen.one a) (seen.all (drop (k + 1) l))
  split l k a h i =
      ap seen.all (drop-cons l k a h) ∙ seen.next (get_or l k a) (drop (suc k) l)
      ∙ ap₂ (λ a l. tree.more (seen.one a) (seen.all l)) (sym i) (ap (λ k. drop k l) (sym (add-one k)))

  pub item_has_ids : (first : Forest (Unit {0}) x) (l made : List A) (k from next : ℕ) (a : A) →
      Halfway chosen seen first l made k from next → k < length l → a ≡ get_or l k a →
      HasIds from (forest_id_count (seen.all l)) → HasIds next (id_count (seen.one a))
  item_has_ids first l made k from next a w h i f =
      let p = ap forest_id_count (split l k a h i) in let c = w.counted in omega arith

  pub one_more : (first : Forest (Unit {0}) x) (l made made' : List A) (k from next later : ℕ) (a b : A) →
      Halfway chosen seen first l made k from next → k < length l → a ≡ get_or l k a → made' ≡ made ++ b ∷ [] →
      Weaves chosen (seen.one a) next (seen.bare b) later →
      Halfway chosen seen first l made' (k + 1) from later
  one_more first l made made' k from next later a b w h i m u =
      let rest = seen.all (drop (k + 1) l) in
      let s = split l k a h i in
      let unrolled : woven_forest chosen (forest_with_ids next (seen.all (drop k l)))
      ≡ tree.more (seen.bare b) (woven_forest chosen (forest_with_ids later rest)) =
      ap (λ f. woven_forest chosen (forest_with_ids next f)) s
      ∙ ap₂ (λ t n. tree.more t (woven_forest chosen (forest_with_ids n rest))) (sym u.is) (sym u.counted) in
      let p = ap forest_id_count s in let c = w.counted in let d = u.counted in
      record {
        so_far = ap (λ m. append_forest (bare_all seen.bare m) (woven_forest chosen (forest_with_ids later rest))) m
            ∙ joined_one seen.bare made b _ ∙ ap (append_forest (bare_all seen.bare made)) (sym unrolled) ∙ w.so_far;
        counted = omega arith;
      }

  -- all items are woven
  pub all_woven : (first : Forest (Unit {0}) x) (l made : List A) (k from next : ℕ) →
      Halfway chosen seen first l made k from next → k ≡ length l →
      bare_all seen.bare made ≡ append_forest first (woven_forest chosen (forest_with_ids from (seen.all l)))
  all_woven first l made k from next w e =
      let none : seen.all (drop k l) ≡ tree.end = ap seen.all (drop_all k l (omega arith)) ∙ seen.none in
      sym (joined_end (bare_all seen.bare made))
      ∙ sym (ap (λ r. append_forest (bare_all seen.bare made) (woven_forest chosen (forest_with_ids next r))) none)
      ∙ w.so_far

  pub all_counted : (first : Forest (Unit {0}) x) (l made : List A) (k from next : ℕ) →
      Halfway chosen seen first l made k from next → k ≡ length l →
      next ≡ from + forest_id_count (seen.all l)
  all_counted first l made k from next w e =
      let none : seen.all (drop k l) ≡ tree.end = ap seen.all (drop_all k l (omega arith)) ∙ seen.none in
      let p = ap forest_id_count none in let c = w.counted in omega arith
