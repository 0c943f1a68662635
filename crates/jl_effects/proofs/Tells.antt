-- Parts that perform allowed operations alone: how they follow one another, and their runs.
use Rattle.std.proofs.Common.{ℕ, zero, suc, ◌<◌, List, [], ◌∷◌, ◌++◌, All, Bool, arith, length, slice_index_or}
use Rattle.jl_effects.specs.Effects.{Part, End, Fail, Step, Look, Change, Begin, Print, Perform, Emit, and_then}
use Rattle.jl_effects.specs.Effects.{Row, row}
use Rattle.jl_effects.specs.Running.{Language, Recorded, RunState, with_store, with_line, with_operation, with_hook}
use Rattle.jl_effects.specs.Running.{trace_with, has_room, nothing_done, Outcome, run_to, step, run, state_of}
use Rattle.jl_effects.proofs.Growth.{either_way}
use Rattle.jl_effects.specs.Telling.{Tells}

-- it holds of each of these
abbrev pub Each : {X : Type 0} → (X → Type 0) → List X → Type 0
Each holds [] = Unit {0}
Each holds (x ∷ l) = holds x × Each holds l

pub each_append : {X : Type 0} (holds : X → Type 0) (l m : List X) → Each holds l → Each holds m → Each holds (l ++ m)
each_append holds [] m x y = y
each_append holds (a ∷ l) m x y = (x.0, each_append holds l m x.1 y)

pub each_left : {X : Type 0} (holds : X → Type 0) (l m : List X) → Each holds (l ++ m) → Each holds l
each_left holds [] m x = tt
each_left holds (a ∷ l) m x = (x.0, each_left holds l m x.1)

pub each_right : {X : Type 0} (holds : X → Type 0) (l m : List X) → Each holds (l ++ m) → Each holds m
each_right holds [] m x = x
each_right holds (a ∷ l) m x = each_right holds l m x.1

module _ {S C F J R O : Type 0} (IsOwn : O → Type 0) (IsGood : J → Type 0) where
  -- parts in a row
  pub tells_then : {A B : Type 0} (p : Part S C F J R O A) (k : A → Part S C F J R O B) → Tells IsOwn IsGood p
      → ((a : A) → Tells IsOwn IsGood (k a)) → Tells IsOwn IsGood (and_then p k)
  tells_then (End a) k x f = f a
  tells_then (Fail e) k x f = tt
  tells_then (Step p) k x f = tells_then p k x f
  tells_then (Look p) k x f = λ s. tells_then (p s) k (x s) f
  tells_then (Change c p) k x f = tells_then p k x f
  tells_then (Begin job p) k x f = (x.0, λ end. tells_then (p end) k (x.1 end) f)
  tells_then (Print line p) k x f = tells_then p k x f
  tells_then (Perform o p) k x f = (x.0, tells_then p k x.1 f)
  tells_then (Emit o p) k x f = tells_then p k x f

  -- a row performs nothing
  pub row_tells : {E K A : Type 0} (call : K → J) (fault : E → F) → ((k : K) → IsGood (call k))
      → (p : Row S C E K R A) → Tells IsOwn IsGood (row {O = O} call fault p)
  row_tells call fault good (End a) = tt
  row_tells call fault good (Fail e) = tt
  row_tells call fault good (Step p) = row_tells call fault good p
  row_tells call fault good (Look p) = λ s. row_tells call fault good (p s)
  row_tells call fault good (Change c p) = row_tells call fault good p
  row_tells call fault good (Begin k p) = (good k, λ end. row_tells call fault good (p end))
  row_tells call fault good (Print line p) = row_tells call fault good p
  row_tells call fault good (Perform o p) = absurd o
  row_tells call fault good (Emit o p) = absurd o

each_trace : {O : Type 0} (IsOwn : O → Type 0) (recorded : O → Bool) (o : O) (trace : List O) → IsOwn o
    → Each IsOwn trace → Each IsOwn (trace_with recorded o trace)
each_trace IsOwn recorded o trace h x =
    either_way (Each IsOwn) (recorded o) _ _ (each_append IsOwn trace (o ∷ []) x (h, tt)) x

abbrev Owning : {S O : Type 0} → (O → Type 0) → RunState S O → Type 0
Owning IsOwn w = Each IsOwn w.operations

module _ {S C F J R O A : Type 0} (l : Language S C F) (r : Recorded O) (jobs : J → Part S C F J R O R)
    (IsOwn : O → Type 0) (IsGood : J → Type 0) (good : (j : J) → IsGood j → Tells IsOwn IsGood (jobs j)) where
  tells_to : (next : Part S C F J R O A → RunState S O → Outcome S F O A) (n : ℕ)
      → ((q : Part S C F J R O A) (v : RunState S O) → Tells IsOwn IsGood q → Owning IsOwn v
      → Owning IsOwn (state_of (next q v)))
      → (p : Part S C F J R O A) (w : RunState S O) → Tells IsOwn IsGood p → Owning IsOwn w
      → Owning IsOwn (state_of (run_to l r jobs next n p w))
  tells_to next n h (End a) w x y = y
  tells_to next n h (Fail f) w x y = y
  tells_to next n h (Step p) w x y = h p w x y
  tells_to next n h (Look p) w x y = tells_to next n h (p w.store) w (x w.store) y
  tells_to next n h (Change c p) w x y = tells_to next n h p (with_store (l.apply c w.store) w) x y
  tells_to next n h (Begin job p) w x y =
      h (and_then (jobs job) p) w (tells_then IsOwn IsGood (jobs job) p (good job x.0) x.1) y
  tells_to next n h (Print line p) w x y =
      either_way (λ z. Owning IsOwn (state_of z)) (has_room l line w) _ _ (tells_to next n h p (with_line line w) x y) y
  tells_to next n h (Perform o p) w x y =
      tells_to next n h p (with_operation r.performed o w) x.1 (each_trace IsOwn r.performed o w.operations x.0 y)
  tells_to next n h (Emit o p) w x y = tells_to next n h p (with_hook r.emitted o w) x y

  tells_step : (n : ℕ) (p : Part S C F J R O A) (w : RunState S O) → Tells IsOwn IsGood p → Owning IsOwn w
      → Owning IsOwn (state_of (step l r jobs n p w))
  tells_step zero p w x y = y
  tells_step (suc n) p w x y = tells_to (λ q v. step l r jobs n q v) n (λ q v. tells_step n q v) p w x y

  -- what a run performs is allowed
  pub run_tells : (n : ℕ) (p : Part S C F J R O A) (s : S) → Tells IsOwn IsGood p
      → Owning IsOwn (state_of (run l r jobs n p (nothing_done s)))
  run_tells n p s x = tells_to (λ q v. step l r jobs n q v) n (λ q v. tells_step n q v) p (nothing_done s) x tt

-- the same by std's word for lists
each_at : {X : Type 0} (holds : X → Type 0) (l : List X) → Each holds l → (k : ℕ) (d : X) → k < length l
    → holds (slice_index_or l k d)
each_at holds [] h k d less = absurd (omega arith)
each_at holds (x ∷ l) h zero d less = h.0
each_at holds (x ∷ l) h (suc k) d less = each_at holds l h.1 k d (omega arith)

pub each_all : {X : Type 0} (holds : X → Type 0) (l : List X) → Each holds l → All holds l
each_all holds l h = λ k d less. each_at holds l h k d less
