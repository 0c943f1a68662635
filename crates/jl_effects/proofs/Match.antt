-- How parts are shown to match.
use Rattle.std.proofs.Common.{ℕ, suc, ◌+◌, ◌≤◌, Bool, true, false, subst, arith}
use Rattle.std.specs.Prelude.{if◌then◌else◌}
use Rattle.jl_effects.specs.Effects.{Part, End, Fail, Step, Look, Change, Begin, Print, Perform, Emit, and_then}
use Rattle.jl_effects.specs.Effects.{Row, row}
use Rattle.jl_effects.specs.Matching.{Matches, ends, fails, both, extra, looks, peeks, changes, begins, prints}
use Rattle.jl_effects.specs.Matching.{told, silent, unkept, own, spare}
use Rattle.jl_effects.proofs.Chains.{and_then-end}

module _ {S C F J R O A : Type 0} (apply : C → S → S) (kept : O → Bool) (IsPair : J → J → Type 0) where
  -- what may be taken before may be left, and so may what is not needed
  pub matches_more : {s : S} {c d : ℕ} {p q : Part S C F J R O A} (k : ℕ) → Matches apply kept IsPair s c d p q
      → Matches apply kept IsPair s (k + c) (k + d) p q
  matches_more k (ends le) = ends (omega arith)
  matches_more k fails = fails
  matches_more k (both m) = both (spare (omega arith) (matches_more k m))
  matches_more k (extra {c = c} m) = spare {c = suc (k + c)} (omega arith) (extra (matches_more k m))
  matches_more k (looks m) = looks (matches_more k m)
  matches_more k (peeks m) = peeks (matches_more k m)
  matches_more k (changes m) = changes (matches_more k m)
  matches_more k (begins pair m) = begins pair (λ end t. matches_more k (m end t))
  matches_more k (prints m) = prints (matches_more k m)
  matches_more k (told m) = told (matches_more k m)
  matches_more k (silent is m) = silent is (matches_more k m)
  matches_more k (unkept is m) = unkept is (matches_more k m)
  matches_more k (own m) = own (matches_more k m)
  matches_more k (spare le m) = spare (omega arith) (matches_more k m)

  -- fewer steps may be left
  pub fewer : {s : S} {c d e : ℕ} {p q : Part S C F J R O A} → e ≤ d → Matches apply kept IsPair s c d p q
      → Matches apply kept IsPair s c e p q
  fewer le (ends l) = ends (omega arith)
  fewer le fails = fails
  fewer le (both m) = both (fewer le m)
  fewer le (extra m) = extra (fewer le m)
  fewer le (looks m) = looks (fewer le m)
  fewer le (peeks m) = peeks (fewer le m)
  fewer le (changes m) = changes (fewer le m)
  fewer le (begins pair m) = begins pair (λ end t. fewer le (m end t))
  fewer le (prints m) = prints (fewer le m)
  fewer le (told m) = told (fewer le m)
  fewer le (silent is m) = silent is (fewer le m)
  fewer le (unkept is m) = unkept is (fewer le m)
  fewer le (own m) = own (fewer le m)
  fewer le (spare l m) = spare l (fewer le m)

  -- a test that goes the same way for both
  pub pick : {s : S} {c d : ℕ} (b : Bool) {p q p' q' : Part S C F J R O A} → Matches apply kept IsPair s c d p p'
      → Matches apply kept IsPair s c d q q'
      → Matches apply kept IsPair s c d (if b then p else q) (if b then p' else q')
  pick true x y = x
  pick false x y = y

module _ {S C F J R O A B : Type 0} (apply : C → S → S) (kept : O → Bool) (IsPair : J → J → Type 0) where
  -- parts in a row match where each matches
  pub matches_then : {s : S} {c d e : ℕ} {p q : Part S C F J R O A} {k l : A → Part S C F J R O B}
      → Matches apply kept IsPair s c d p q → ((a : A) (t : S) → Matches apply kept IsPair t d e (k a) (l a))
      → Matches apply kept IsPair s c e (and_then p k) (and_then q l)
  matches_then (ends {s = s} {a = a} le) f = spare le (f a s)
  matches_then fails f = fails
  matches_then (both m) f = both (matches_then m f)
  matches_then (extra m) f = extra (matches_then m f)
  matches_then (looks m) f = looks (matches_then m f)
  matches_then (peeks m) f = peeks (matches_then m f)
  matches_then (changes m) f = changes (matches_then m f)
  matches_then (begins pair m) f = begins pair (λ end t. matches_then (m end t) f)
  matches_then (prints m) f = prints (matches_then m f)
  matches_then (told m) f = told (matches_then m f)
  matches_then (silent is m) f = silent is (matches_then m f)
  matches_then (unkept is m) f = unkept is (matches_then m f)
  matches_then (own m) f = own (matches_then m f)
  matches_then (spare le m) f = spare le (matches_then m f)

-- the second goes on alone
pub second_then : {S C F J R O A : Type 0} (apply : C → S → S) (kept : O → Bool) (IsPair : J → J → Type 0)
    {s : S} {c d e : ℕ} {p q : Part S C F J R O A} {l : A → Part S C F J R O A}
    → Matches apply kept IsPair s c d p q → ((a : A) (t : S) → Matches apply kept IsPair t d e (End a) (l a))
    → Matches apply kept IsPair s c e p (and_then q l)
second_then apply kept IsPair {s} {c} {d} {e} {p} {q} {l} m f =
    subst (λ x. Matches apply kept IsPair s c e x (and_then q l)) (and_then-end p) (matches_then apply kept IsPair m f)

-- a row matches itself, whose calls match themselves
module _ {S C E F K J R O A : Type 0} (apply : C → S → S) (kept : O → Bool) (IsPair : J → J → Type 0) (call : K → J)
    (fault : E → F) (pairs : (k : K) → IsPair (call k) (call k)) where
  pub row_matches : (p : Row S C E K R A) (s : S) (c : ℕ)
      → Matches apply kept IsPair s c c (row call fault p) (row call fault p)
  row_matches (End a) s c = ends (omega arith)
  row_matches (Fail f) s c = fails
  row_matches (Step p) s c = both (spare {c = c} (omega arith) (row_matches p s c))
  row_matches (Look p) s c = looks (peeks (row_matches (p s) s c))
  row_matches (Change change p) s c = changes (row_matches p (apply change s) c)
  row_matches (Begin k p) s c = begins (pairs k) (λ end t. row_matches (p end) t c)
  row_matches (Print line p) s c = prints (row_matches p s c)
  row_matches (Perform o p) s c = absurd o
  row_matches (Emit o p) s c = absurd o
