-- Hits at a place are no more than hits.
use Rattle.std.proofs.Common.{◌≡◌, ℕ, suc, ◌+◌, ◌<◌, Bool, true, false, List, [], ◌∷◌, length, take}
use Rattle.std.proofs.Common.{get_or, sum_by, arith, nat_eq, ◌==◌, ◌++◌, refl, ap, ◌∙◌}
use Rattle.std.proofs.Math.Seq.{take-suc}
use Rattle.std.proofs.lemmas.List.Sums.{sum_by-cons}
use Rattle.std.specs.Prelude.{if◌then◌else◌, None, Some, ◌&&◌}
use Rattle.jl_op.specs.declared.op.OpId.{OpId}
use Rattle.jl_analysis.specs.Summary.{Counts}
use Rattle.jl_report.specs.Reports.{Place, Findings, is_place, place_of, total_at, found_at}

abbrev pub number : OpId × ℕ → ℕ
number x = x.1

-- the hits at a place among one entry's
abbrev pub here : List Place → Place → OpId × ℕ → ℕ
here places at x = if is_place at (place_of places x.0) then x.1 else 0

pub if_same : (n m : ℕ) → (if n == n then m else 0) ≡ m
if_same n m = if_true (nat_eq n n) (grind arith)
  where
    if_true : (b : Bool) → b ≡ true → (if b then m else 0) ≡ m
    if_true true e = refl
    if_true false e = cc

sum_by-push : (f : OpId × ℕ → ℕ) (c : Counts) (x : OpId × ℕ) → sum_by f (c ++ x ∷ []) ≡ sum_by f c + f x
sum_by-push f [] x = omega (arith, sum_by-cons f x [])
sum_by-push f (y ∷ c) x = omega (arith, sum_by-cons f y c, sum_by-cons f y (c ++ x ∷ []), sum_by-push f c x)

-- one entry more
pub total_at-next : (places : List Place) (c : Counts) (i : ℕ) (d : OpId × ℕ) (at : Place) → i < length c
    → total_at places (take (i + 1) c) at ≡ total_at places (take i c) at + here places at (get_or c i d)
total_at-next places c i d at h =
    let next : i + 1 ≡ suc i = omega arith in
    ap (λ l. total_at places l at) (ap (λ j. take j c) next ∙ take-suc c i d h)
    ∙ sum_by-push (here places at) (take i c) (get_or c i d)

-- an entry without a place adds nothing
pub here-none : (places : List Place) (at : Place) (x : OpId × ℕ) → place_of places x.0 ≡ None → here places at x ≡ 0
here-none places at x e = ap (λ o. if is_place at o then x.1 else 0) e

-- and one at a place adds its number there
pub here-some : (places : List Place) (at place : Place) (x : OpId × ℕ) → place_of places x.0 ≡ Some place
    → here places at x ≡ (if place.0 == at.0 && place.1 == at.1 then x.1 else 0)
here-some places at place x e = ap (λ o. if is_place at o then x.1 else 0) e

pub plus_none : (n m : ℕ) → m ≡ 0 → n ≡ n + m
plus_none n m e = omega arith

push_total : (f : ℕ × Counts → ℕ) (fs : Findings) (x : ℕ × Counts) → sum_by f (fs ++ x ∷ []) ≡ sum_by f fs + f x
push_total f [] x = omega (arith, sum_by-cons f x [])
push_total f (y ∷ fs) x = omega (arith, sum_by-cons f y fs, sum_by-cons f y (fs ++ x ∷ []), push_total f fs x)

-- one checker more
pub found_at-next : (places : List Place) (fs : Findings) (i : ℕ) (d : ℕ × Counts) (rule : ℕ) (at : Place)
    → i < length fs
    → found_at places (take (i + 1) fs) rule at
    ≡ found_at places (take i fs) rule at
    + (if (get_or fs i d).0 == rule then total_at places (get_or fs i d).1 at else 0)
found_at-next places fs i d rule at h =
    let next : i + 1 ≡ suc i = omega arith in
    ap (λ l. found_at places l rule at) (ap (λ j. take j fs) next ∙ take-suc fs i d h)
    ∙ push_total (λ f. if f.0 == rule then total_at places f.1 at else 0) (take i fs) (get_or fs i d)
