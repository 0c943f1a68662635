-- What is found in a row of boxes, each of which has a rule and keeps counts.
use Rattle.std.proofs.Common.{◌≡◌, ◌<◌, ℕ, suc, List, [], ◌∷◌, length, map, All, refl, sym, ap, subst, ◌∙◌}
use Rattle.std.proofs.Common.{arith}
use Rattle.std.specs.Prelude.{Some, IfSome, slice_get, option_map}
use Rattle.std.proofs.Math.ListN.{get_or}
use Rattle.std.proofs.lemmas.Option.{slice_get-map, slice_get_read}
use Rattle.jl_op.specs.Operations.{Operation}
use Rattle.jl_analysis.specs.Summary.{Counts, Kept, summary}

pub map_map : {X Y Z : Type 0} (f : X → Y) (g : Y → Z) (xs : List X) → map g (map f xs) ≡ map (λ x. g (f x)) xs
map_map f g [] = refl
map_map f g (x ∷ xs) = ap (λ zs. g (f x) ∷ zs) (map_map f g xs)

-- the element at a place of a mapped list
pub map_at : {X Y : Type 0} (f : X → Y) (xs : List X) (place : ℕ) (x : X) → place < length xs → x ≡ get_or xs place x
    → slice_get (map f xs) place ≡ Some (f x)
map_at f xs place x l e = slice_get-map f xs place ∙ ap (option_map f) (slice_get_read xs (length xs) place x refl l e)

module _ {X : Type 0} (rule : X → ℕ) (kept : X → Kept) where
  -- the counts in one box are those of a summary, if what each box keeps is one
  pub summed_at : (xs : List X) (place : ℕ) (x : X) → place < length xs → x ≡ get_or xs place x → (counts : Counts)
      → counts ≡ (kept x).counts
      → (told : List Operation) → All (λ y. kept y ≡ summary (rule y) told) xs
      → IfSome (slice_get (map rule xs) place) (λ r. counts ≡ (summary r told).counts)
  summed_at xs place x l e counts f told a =
      let here : kept x ≡ summary (rule x) told = subst (λ y. kept y ≡ summary (rule y) told) (sym e) (a place x l) in
      subst (λ o. IfSome o (λ r. counts ≡ (summary r told).counts)) (sym (map_at rule xs place x l e))
      (f ∙ ap (λ k. k.counts) here)

  -- and so are those of all
  pub all_summed : (xs : List X) (told : List Operation) → All (λ y. kept y ≡ summary (rule y) told) xs
      → map {B = ℕ × Counts} (λ y. (rule y, (kept y).counts)) xs
      ≡ map {B = ℕ × Counts} (λ r. (r, (summary r told).counts)) (map rule xs)
  all_summed [] told a = refl
  all_summed (x ∷ xs) told a =
      let here : kept x ≡ summary (rule x) told = a 0 x (omega arith) in
      ap (λ k. let one : ℕ × Counts = (rule x, k.counts) in one ∷ map (λ y. (rule y, (kept y).counts)) xs) here
      ∙ ap (λ zs. (rule x, (summary (rule x) told).counts) ∷ zs)
      (all_summed xs told (λ k d l. a (suc k) d (omega arith)))
