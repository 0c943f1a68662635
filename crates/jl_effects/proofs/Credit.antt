-- Parts that pay for what they emit: how they follow one another, and their runs.
use Rattle.std.proofs.Common.{ℕ, zero, suc, ◌+◌, ◌≤◌, List, [], ◌∷◌, length, Bool, arith, length-append}
use Rattle.jl_effects.specs.Effects.{Part, End, Fail, Step, Look, Change, Begin, Print, Perform, Emit, and_then}
use Rattle.jl_effects.specs.Effects.{Row, row}
use Rattle.jl_effects.specs.Running.{Language, Recorded, RunState, with_store, with_line, with_operation, with_hook}
use Rattle.jl_effects.specs.Running.{trace_with, has_room, Outcome, Over, Spent, run_to, step, run, state_of}
use Rattle.jl_effects.specs.Running.{nothing_done, steps_taken}
use Rattle.jl_effects.proofs.Growth.{either_way}
use Rattle.jl_effects.specs.Credit.{Pays}

module _ {S C F J R O A : Type 0} where
  -- with more to begin with, more may be left, but no more than was added
  pub pays_more : (left left' : A → ℕ) (p : Part S C F J R O A) (credit credit' : ℕ) → credit ≤ credit'
      → ((a : A) → left' a + credit ≤ left a + credit') → Pays left p credit → Pays left' p credit'
  pays_more left left' (End a) c c' h f x = let more = f a in omega arith
  pays_more left left' (Fail e) c c' h f x = tt
  pays_more left left' (Step p) c c' h f x =
      pays_more left left' p (suc c) (suc c') (omega arith) (λ a. let more = f a in omega arith) x
  pays_more left left' (Look p) c c' h f x = λ s. pays_more left left' (p s) c c' h f (x s)
  pays_more left left' (Change change p) c c' h f x = pays_more left left' p c c' h f x
  pays_more left left' (Begin job p) c c' h f x =
      λ end. pays_more left left' (p end) (suc c) (suc c') (omega arith) (λ a. let more = f a in omega arith) (x end)
  pays_more left left' (Print line p) c c' h f x = pays_more left left' p c c' h f x
  pays_more left left' (Perform o p) c c' h f x = pays_more left left' p c c' h f x
  pays_more left left' (Emit o p) zero c' h f x = absurd x
  pays_more left left' (Emit o p) (suc c) zero h f x = absurd (omega arith)
  pays_more left left' (Emit o p) (suc c) (suc c') h f x =
      pays_more left left' p c c' (omega arith) (λ a. let more = f a in omega arith) x

-- parts in a row
pub pays_then : {S C F J R O A B : Type 0} (middle : A → ℕ) (left : B → ℕ) (p : Part S C F J R O A)
    (k : A → Part S C F J R O B) (credit : ℕ) → Pays middle p credit → ((a : A) → Pays left (k a) (middle a))
    → Pays left (and_then p k) credit
pays_then middle left (End a) k c x f =
    pays_more left left (k a) (middle a) c x (λ b. omega arith) (f a)
pays_then middle left (Fail e) k c x f = tt
pays_then middle left (Step p) k c x f = pays_then middle left p k (suc c) x f
pays_then middle left (Look p) k c x f = λ s. pays_then middle left (p s) k c (x s) f
pays_then middle left (Change change p) k c x f = pays_then middle left p k c x f
pays_then middle left (Begin job p) k c x f = λ end. pays_then middle left (p end) k (suc c) (x end) f
pays_then middle left (Print line p) k c x f = pays_then middle left p k c x f
pays_then middle left (Perform o p) k c x f = pays_then middle left p k c x f
pays_then middle left (Emit o p) k zero x f = absurd x
pays_then middle left (Emit o p) k (suc c) x f = pays_then middle left p k c x f

-- a row emits nothing
pub row_pays : {S C E F K J R A : Type 0} (O : Type 0) (call : K → J) (fault : E → F) (p : Row S C E K R A)
    (credit least : ℕ) → least ≤ credit → Pays {O = O} (λ a. least) (row call fault p) credit
row_pays O call fault (End a) c least h = h
row_pays O call fault (Fail e) c least h = tt
row_pays O call fault (Step p) c least h = row_pays O call fault p (suc c) least (omega arith)
row_pays O call fault (Look p) c least h = λ s. row_pays O call fault (p s) c least h
row_pays O call fault (Change change p) c least h = row_pays O call fault p c least h
row_pays O call fault (Begin k p) c least h = λ end. row_pays O call fault (p end) (suc c) least (omega arith)
row_pays O call fault (Print line p) c least h = row_pays O call fault p c least h
row_pays O call fault (Perform o p) c least h = absurd o
row_pays O call fault (Emit o p) c least h = absurd o

-- the operations that hooks have emitted, and the steps that are left
abbrev total : {S F O A : Type 0} → Outcome S F O A → ℕ
total (Over e left w) = length w.hooks + left
total (Spent w) = length w.hooks

-- a trace is longer by one at most
one_longer : {O : Type 0} (recorded : O → Bool) (o : O) (trace : List O)
    → length (trace_with recorded o trace) ≤ length trace + 1
one_longer recorded o trace =
    either_way (λ t. length t ≤ length trace + 1) (recorded o) _ _ (omega (arith, length-append trace (o ∷ [])))
    (omega arith)

module _ {S C F J R O A : Type 0} (l : Language S C F) (r : Recorded O) (jobs : J → Part S C F J R O R)
    (paid : (j : J) → Pays (λ end. 0) (jobs j) 0) where
  abbrev none : A → ℕ
  none a = 0

  -- the part of a job, in the place of its beginning
  begun : (j : J) (p : R → Part S C F J R O A) (c : ℕ) → ((end : R) → Pays none (p end) (suc c))
      → Pays none (and_then (jobs j) p) (suc c)
  begun j p c f =
      pays_then (λ end. suc c) none (jobs j) p (suc c)
      (pays_more (λ end. 0) (λ end. suc c) (jobs j) 0 (suc c) (omega arith) (λ end. omega arith) (paid j)) f

  pays_to : (next : Part S C F J R O A → RunState S O → Outcome S F O A) (n : ℕ)
      → ((q : Part S C F J R O A) (v : RunState S O) (c : ℕ) → Pays none q (suc c)
      → total (next q v) ≤ length v.hooks + c + n)
      → (p : Part S C F J R O A) (w : RunState S O) (c : ℕ) → Pays none p c
      → total (run_to l r jobs next n p w) ≤ length w.hooks + c + n
  pays_to next n h (End a) w c x = omega arith
  pays_to next n h (Fail f) w c x = omega arith
  pays_to next n h (Step p) w c x = h p w c x
  pays_to next n h (Look p) w c x = pays_to next n h (p w.store) w c (x w.store)
  pays_to next n h (Change change p) w c x = pays_to next n h p (with_store (l.apply change w.store) w) c x
  pays_to next n h (Begin job p) w c x = h (and_then (jobs job) p) w c (begun job p c x)
  pays_to next n h (Print line p) w c x =
      either_way (λ y. total y ≤ length w.hooks + c + n) (has_room l line w) _ _
      (pays_to next n h p (with_line line w) c x) (omega arith)
  pays_to next n h (Perform o p) w c x = pays_to next n h p (with_operation r.performed o w) c x
  pays_to next n h (Emit o p) w zero x = absurd x
  pays_to next n h (Emit o p) w (suc c) x =
      let more = one_longer r.emitted o w.hooks in
      let rest = pays_to next n h p (with_hook r.emitted o w) c x in omega arith

  pays_step : (n : ℕ) (p : Part S C F J R O A) (w : RunState S O) (c : ℕ) → Pays none p (suc c)
      → total (step l r jobs n p w) ≤ length w.hooks + c + n
  pays_step zero p w c x = omega arith
  pays_step (suc n) p w c x =
      let rest = pays_to (λ q v. step l r jobs n q v) n (λ q v d y. pays_step n q v d y) p w (suc c) x in omega arith

  within : (n : ℕ) (before : ℕ) (x : Outcome S F O A) → total x ≤ before + n
      → length (state_of x).hooks ≤ before + steps_taken n x
  within n before (Over e left w) h = omega arith
  within n before (Spent w) h = h

  -- a run emits no more operations than it takes steps
  pub run_pays : (n : ℕ) (p : Part S C F J R O A) (w : RunState S O) → Pays none p 0
      → length (state_of (run l r jobs n p w)).hooks ≤ length w.hooks + steps_taken n (run l r jobs n p w)
  run_pays n p w x =
      within n (length w.hooks) (run l r jobs n p w)
      (let all = pays_to (λ q v. step l r jobs n q v) n (λ q v d y. pays_step n q v d y) p w 0 x in omega arith)

  -- from where nothing was done
  pub run_pays_all : (n : ℕ) (p : Part S C F J R O A) (s : S) → Pays none p 0
      → length (state_of (run l r jobs n p (nothing_done s))).hooks
      ≤ steps_taken n (run l r jobs n p (nothing_done s))
  run_pays_all n p s x = let all = run_pays n p (nothing_done s) x in omega arith
