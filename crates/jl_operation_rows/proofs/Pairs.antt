-- Parts with the same effects, but that the operations which they perform are paired, one by one, and so are the jobs
-- which they begin; and the runs of such parts.
use Rattle.std.proofs.Common.{ℕ, zero, suc, List, [], ◌∷◌, ◌++◌, Bool}
use Rattle.jl_effects.specs.Effects.{Part, End, Fail, Step, Look, Change, Begin, Print, Perform, Emit, and_then}
use Rattle.jl_effects.specs.Effects.{Row, row}
use Rattle.jl_effects.specs.Running.{keeping, has_room, run, run_to, state_of, step, trace_with}
use Rattle.jl_effects.specs.Running.{Language, Outcome, RunState}
use Rattle.jl_effects.specs.Telling.{Tells}
use Rattle.jl_effects.proofs.Growth.{both_ways}

pub data Paired {S C F J R O A : Type 0} (IsPair : O → O → Type 0) (ArePairedJobs : J → J → Type 0)
    : Part S C F J R O A → Part S C F J R O A → Type 0 where
  ends : {a : A} → Paired IsPair ArePairedJobs (End a) (End a)
  fails : {f : F} → Paired IsPair ArePairedJobs (Fail f) (Fail f)
  steps : {p q : Part S C F J R O A} → Paired IsPair ArePairedJobs p q
      → Paired IsPair ArePairedJobs (Step p) (Step q)
  looks : {p q : S → Part S C F J R O A} → ((s : S) → Paired IsPair ArePairedJobs (p s) (q s))
      → Paired IsPair ArePairedJobs (Look p) (Look q)
  changes : {c : C} {p q : Part S C F J R O A} → Paired IsPair ArePairedJobs p q
      → Paired IsPair ArePairedJobs (Change c p) (Change c q)
  begins : {i j : J} {p q : R → Part S C F J R O A} → ArePairedJobs i j
      → ((end : R) → Paired IsPair ArePairedJobs (p end) (q end))
      → Paired IsPair ArePairedJobs (Begin i p) (Begin j q)
  prints : {line : List ℕ} {p q : Part S C F J R O A} → Paired IsPair ArePairedJobs p q
      → Paired IsPair ArePairedJobs (Print line p) (Print line q)
  performs : {a b : O} {p q : Part S C F J R O A} → IsPair a b → Paired IsPair ArePairedJobs p q
      → Paired IsPair ArePairedJobs (Perform a p) (Perform b q)
  emits : {o : O} {p q : Part S C F J R O A} → Paired IsPair ArePairedJobs p q
      → Paired IsPair ArePairedJobs (Emit o p) (Emit o q)

module _ {S C F J R O : Type 0} (IsPair : O → O → Type 0) (ArePairedJobs : J → J → Type 0) where
  -- parts in a row
  pub paired_then : {A B : Type 0} {p q : Part S C F J R O A} {k l : A → Part S C F J R O B}
      → Paired IsPair ArePairedJobs p q → ((a : A) → Paired IsPair ArePairedJobs (k a) (l a))
      → Paired IsPair ArePairedJobs (and_then p k) (and_then q l)
  paired_then (ends {a = a}) f = f a
  paired_then fails f = fails
  paired_then (steps x) f = steps (paired_then x f)
  paired_then (looks x) f = looks (λ s. paired_then (x s) f)
  paired_then (changes x) f = changes (paired_then x f)
  paired_then (begins h x) f = begins h (λ end. paired_then (x end) f)
  paired_then (prints x) f = prints (paired_then x f)
  paired_then (performs h x) f = performs h (paired_then x f)
  paired_then (emits x) f = emits (paired_then x f)

  -- a row, with itself
  pub row_paired : {E K A : Type 0} (call : K → J) (fault : E → F) → ((k : K) → ArePairedJobs (call k) (call k))
      → (p : Row S C E K R A) → Paired IsPair ArePairedJobs (row call fault p) (row call fault p)
  row_paired call fault h (End a) = ends
  row_paired call fault h (Fail e) = fails
  row_paired call fault h (Step p) = steps (row_paired call fault h p)
  row_paired call fault h (Look p) = looks (λ s. row_paired call fault h (p s))
  row_paired call fault h (Change c p) = changes (row_paired call fault h p)
  row_paired call fault h (Begin k p) = begins (h k) (λ end. row_paired call fault h (p end))
  row_paired call fault h (Print line p) = prints (row_paired call fault h p)
  row_paired call fault h (Perform o p) = absurd o
  row_paired call fault h (Emit o p) = absurd o

  -- a part that performs nothing, since no operation is its own, with itself
  pub silent_paired : {A : Type 0} (IsOwn : O → Type 0) (IsGood : J → Type 0) → ((o : O) → IsOwn o → ⊥)
      → ((j : J) → IsGood j → ArePairedJobs j j) → (p : Part S C F J R O A) → Tells IsOwn IsGood p
      → Paired IsPair ArePairedJobs p p
  silent_paired IsOwn IsGood none h (End a) x = ends
  silent_paired IsOwn IsGood none h (Fail f) x = fails
  silent_paired IsOwn IsGood none h (Step p) x = steps (silent_paired IsOwn IsGood none h p x)
  silent_paired IsOwn IsGood none h (Look p) x = looks (λ s. silent_paired IsOwn IsGood none h (p s) (x s))
  silent_paired IsOwn IsGood none h (Change c p) x = changes (silent_paired IsOwn IsGood none h p x)
  silent_paired IsOwn IsGood none h (Begin j p) x =
      begins (h j x.0) (λ end. silent_paired IsOwn IsGood none h (p end) (x.1 end))
  silent_paired IsOwn IsGood none h (Print line p) x = prints (silent_paired IsOwn IsGood none h p x)
  silent_paired IsOwn IsGood none h (Perform o p) x = absurd (none o x.0)
  silent_paired IsOwn IsGood none h (Emit o p) x = emits (silent_paired IsOwn IsGood none h p x)

-- the lists are as long, and what stands at the same index is paired
abbrev pub AllPaired : {X Y : Type 0} → (X → Y → Type 0) → List X → List Y → Type 0
AllPaired IsPair [] [] = Unit {0}
AllPaired IsPair (x ∷ l) (y ∷ m) = IsPair x y × AllPaired IsPair l m
AllPaired IsPair _ _ = ⊥

pub one_more_paired : {X Y : Type 0} (IsPair : X → Y → Type 0) (l : List X) (m : List Y) (x : X) (y : Y)
    → AllPaired IsPair l m → IsPair x y → AllPaired IsPair (l ++ x ∷ []) (m ++ y ∷ [])
one_more_paired IsPair [] [] x y h i = (i, tt)
one_more_paired IsPair (a ∷ l) (b ∷ m) x y h i = (h.0, one_more_paired IsPair l m x y h.1 i)
one_more_paired IsPair [] (b ∷ m) x y h i = absurd h
one_more_paired IsPair (a ∷ l) [] x y h i = absurd h

-- RUNS
abbrev at : {S O : Type 0} → S → List ℕ → (operations hooks : List O) → RunState S O
at s output operations hooks = record { store = s; output = output; operations = operations; hooks = hooks }

-- both have come to operations that are paired
abbrev pub SamePerformed : {S F O A : Type 0} → (O → O → Type 0) → Outcome S F O A → Outcome S F O A → Type 0
SamePerformed IsPair a b = AllPaired IsPair (state_of a).operations (state_of b).operations

-- what is made of a part and of the state that it begins with
abbrev Runs : (S C F J R O A : Type 0) → Type 0
Runs S C F J R O A = Part S C F J R O A → RunState S O → Outcome S F O A

module _ {S C F J R O A : Type 0} (language : Language S C F) (kept : O → Bool) (first second : J → Part S C F J R O R)
    (IsPair : O → O → Type 0) (ArePairedJobs : J → J → Type 0)
    (jobs : (i j : J) → ArePairedJobs i j → Paired IsPair ArePairedJobs (first i) (second j)) where
  abbrev Together : Runs S C F J R O A → Runs S C F J R O A → Part S C F J R O A → Part S C F J R O A → Type 0
  Together run run' p q = (s : S) (output : List ℕ) (a b hooks : List O) → AllPaired IsPair a b
      → SamePerformed IsPair (run p (at s output a hooks)) (run' q (at s output b hooks))

  paired_to : (next next' : Runs S C F J R O A) (n : ℕ)
      → ((p q : Part S C F J R O A) → Paired IsPair ArePairedJobs p q → Together next next' p q)
      → {p q : Part S C F J R O A} → Paired IsPair ArePairedJobs p q
      → Together (λ p w. run_to language (keeping kept) first next n p w)
      (λ q w. run_to language (keeping kept) second next' n q w) p q
  paired_to next next' n h ends s output a b hooks x = x
  paired_to next next' n h fails s output a b hooks x = x
  paired_to next next' n h (steps {p = p} {q = q} y) s output a b hooks x = h p q y s output a b hooks x
  paired_to next next' n h (looks y) s output a b hooks x = paired_to next next' n h (y s) s output a b hooks x
  paired_to next next' n h (changes {c = c} y) s output a b hooks x =
      paired_to next next' n h y (language.apply c s) output a b hooks x
  paired_to next next' n h (begins {i = i} {j = j} {p = p} {q = q} pair y) s output a b hooks x =
      h (and_then (first i) p) (and_then (second j) q) (paired_then IsPair ArePairedJobs (jobs i j pair) y) s output
      a b hooks x
  paired_to next next' n h (prints {line = line} y) s output a b hooks x =
      both_ways (λ u v. SamePerformed IsPair u v) (has_room language line (at s output a hooks)) _ _ _ _
      (paired_to next next' n h y s (output ++ line ++ 10 ∷ []) a b hooks x) x
  paired_to next next' n h (performs {a = o} {b = r} pair y) s output a b hooks x =
      paired_to next next' n h y s output (a ++ o ∷ []) (b ++ r ∷ []) hooks (one_more_paired IsPair a b o r x pair)
  paired_to next next' n h (emits {o = o} y) s output a b hooks x =
      paired_to next next' n h y s output a b (trace_with kept o hooks) x

  paired_step : (n : ℕ) (p q : Part S C F J R O A) → Paired IsPair ArePairedJobs p q
      → Together (λ p w. step language (keeping kept) first n p w)
      (λ q w. step language (keeping kept) second n q w) p q
  paired_step zero p q y s output a b hooks x = x
  paired_step (suc n) p q y s output a b hooks x =
      paired_to (λ p w. step language (keeping kept) first n p w) (λ q w. step language (keeping kept) second n q w) n
      (paired_step n) y s output a b hooks x

  -- the runs perform paired operations
  pub runs_paired : (n : ℕ) {p q : Part S C F J R O A} → Paired IsPair ArePairedJobs p q
      → Together (λ p w. run language (keeping kept) first n p w)
      (λ q w. run language (keeping kept) second n q w) p q
  runs_paired n y s output a b hooks x =
      paired_to (λ p w. step language (keeping kept) first n p w) (λ q w. step language (keeping kept) second n q w) n
      (paired_step n) y s output a b hooks x
