-- A list has one stable order by a test that ranks its elements.
use Rattle.std.proofs.Common.{◌≡◌, ◌∙◌, ◌∷◌, ◌<◌, ◌≤◌, [], ap, arith, cond, refl, sym, subst, false, true, length}
use Rattle.std.proofs.Common.{suc, Bool, List, ℕ}
use Rattle.std.specs.Prelude.{get_or, not, ◌&&◌}
use Rattle.std.specs.Cmp.{IsStrictWeakOrder}
use Rattle.std.specs.List.{filter}
use Rattle.std.specs.List.Sorted.{ties, IsSortedBy, IsStableBy}
use Rattle.std.proofs.lemmas.List.Sorted.{sorted_far}

module _ {X : Type 0} (lt : X → X → Bool) where
  -- no element of the list comes before this one
  abbrev pub NoneBefore : X → List X → Type 0
  NoneBefore x [] = Unit {0}
  NoneBefore x (y ∷ l) = (lt y x ≡ false) × NoneBefore x l

  -- none comes before one that stands before it
  abbrev pub InOrder : List X → Type 0
  InOrder [] = Unit {0}
  InOrder (x ∷ l) = NoneBefore x l × InOrder l

  none_from : (x : X) (l : List X) → ((k : ℕ) (d : X) → k < length l → lt (get_or l k d) x ≡ false) → NoneBefore x l
  none_from x [] each = tt
  none_from x (y ∷ l) each =
      (each 0 y (omega arith), none_from x l (λ k d below. each (suc k) d (omega (arith, below))))

  pub in_order : (l : List X)
      → ((i j : ℕ) (d : X) → i ≤ j → j < length l → lt (get_or l j d) (get_or l i d) ≡ false) → InOrder l
  in_order [] far = tt
  in_order (x ∷ l) far = (
    none_from x l (λ k d below. far 0 (suc k) d (omega arith) (omega (arith, below))),
    in_order l (λ i j d le below. far (suc i) (suc j) d (omega (arith, le)) (omega (arith, below))),
  )

  module _ (o : IsStrictWeakOrder lt) where
    not_itself : (x : X) → lt x x ≡ false
    not_itself x = by (lt x x) refl
      where
        by : (b : Bool) → lt x x ≡ b → lt x x ≡ false
        by false is = is
        by true is = o.one_way x x is

    keeps_itself : (x : X) (l : List X) → filter (ties lt x) (x ∷ l) ≡ x ∷ filter (ties lt x) l
    keeps_itself x l =
        ap (λ b. cond (not b && not b) (x ∷ filter (ties lt x) l) (filter (ties lt x) l)) (not_itself x)

    -- the first of those that a test keeps is one of the list
    first_kept : (t : X → Bool) (y z : X) (l r : List X) → NoneBefore y l → filter t l ≡ z ∷ r → lt z y ≡ false
    first_kept t y z [] r none is = absurd (let differ = is in cc)
    first_kept t y z (a ∷ l) r none is = by (first_kept t y z l r none.1) (t a) is
      where
        by : (filter t l ≡ z ∷ r → lt z y ≡ false) → (b : Bool) → cond b (a ∷ filter t l) (filter t l) ≡ z ∷ r
            → lt z y ≡ false
        by later true e = let same : a ≡ z = (let heads = e in cc) in subst (λ w. lt w y ≡ false) same none.0
        by later false e = later e

    tails : (b : Bool) (y : X) (l r : List X) → cond b (y ∷ l) l ≡ cond b (y ∷ r) r → l ≡ r
    tails true y l r e = let same = e in cc
    tails false y l r e = e

    -- two lists in order, in which those that tie stand alike
    pub one_order : (ys zs : List X) → InOrder ys → InOrder zs
        → ((x : X) → filter (ties lt x) ys ≡ filter (ties lt x) zs) → ys ≡ zs
    one_order [] [] a b same = refl
    one_order [] (z ∷ zs) a b same = absurd (let differ = same z ∙ keeps_itself z zs in cc)
    one_order (y ∷ ys) [] a b same = absurd (let differ = sym (same y) ∙ keeps_itself y ys in cc)
    one_order (y ∷ ys) (z ∷ zs) a b same = ends heads (one_order ys zs a.1 b.1 rest)
      where
        low : lt z y ≡ false
        low = first_kept (ties lt z) y z (y ∷ ys) (filter (ties lt z) zs) (not_itself y, a.0)
            (same z ∙ keeps_itself z zs)

        high : lt y z ≡ false
        high = first_kept (ties lt y) z y (z ∷ zs) (filter (ties lt y) ys) (not_itself z, b.0)
            (sym (same y) ∙ keeps_itself y ys)

        kept : filter (ties lt y) (z ∷ zs) ≡ z ∷ filter (ties lt y) zs
        kept =
            ap (λ c. cond (not c && not (lt z y)) (z ∷ filter (ties lt y) zs) (filter (ties lt y) zs)) high
            ∙ ap (λ c. cond (not c) (z ∷ filter (ties lt y) zs) (filter (ties lt y) zs)) low

        heads : y ≡ z
        heads = let both = sym (keeps_itself y ys) ∙ same y ∙ kept in cc

        rest : (x : X) → filter (ties lt x) ys ≡ filter (ties lt x) zs
        rest x =
            tails (ties lt x y) y (filter (ties lt x) ys) (filter (ties lt x) zs)
            (same x ∙ ap (λ w. cond (ties lt x w) (w ∷ filter (ties lt x) zs) (filter (ties lt x) zs)) (sym heads))

        ends : y ≡ z → ys ≡ zs → (y ∷ ys) ≡ z ∷ zs
        ends e f = cc

    -- none before one that comes no later
    pub none_chain : (x y : X) (l : List X) → lt y x ≡ false → NoneBefore y l → NoneBefore x l
    none_chain x y [] before none = tt
    none_chain x y (z ∷ l) before none = (o.chain z y x none.0 before, none_chain x y l before none.1)

    -- two that tie with one don't come before each other
    pub no_tie : (w x y : X) → ties lt w x ≡ true → ties lt w y ≡ true → lt y x ≡ false
    no_tie w x y with_x with_y = o.chain y w x (second (lt w y) (lt y w) with_y) (front (lt w x) (lt x w) with_x)
      where
        front : (a b : Bool) → not a && not b ≡ true → a ≡ false
        front false b e = refl
        front true b e = absurd (let differ = e in cc)

        second : (a b : Bool) → not a && not b ≡ true → b ≡ false
        second false false e = refl
        second false true e = absurd (let differ = e in cc)
        second true b e = absurd (let differ = e in cc)

    -- what a stable sort leaves is what any list has that is in order and has those that tie alike
    pub stably : (xs ys zs : List X) → IsSortedBy lt ys → IsStableBy lt xs ys → InOrder zs
        → ((x : X) → filter (ties lt x) zs ≡ filter (ties lt x) xs) → ys ≡ zs
    stably xs ys zs sorted stable ordered alike =
        one_order ys zs (in_order ys (sorted_far lt o ys sorted)) ordered (λ x. stable x ∙ sym (alike x))
