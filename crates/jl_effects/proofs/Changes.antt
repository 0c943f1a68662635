-- What every change keeps, a run keeps.
use Rattle.std.proofs.Common.{ℕ, zero, suc}
use Rattle.jl_effects.specs.Effects.{Part, End, Fail, Step, Look, Change, Begin, Print, Perform, Emit, and_then}
use Rattle.jl_effects.specs.Running.{Language, Recorded, RunState, with_store, with_line, with_operation, with_hook}
use Rattle.jl_effects.specs.Running.{has_room, Outcome, run_to, step, run, state_of}
use Rattle.jl_effects.proofs.Growth.{either_way}

module _ {S C F J R O A : Type 0} (l : Language S C F) (holds : S → Type 0)
    (keeps : (c : C) (s : S) → holds s → holds (l.apply c s))
    (r : Recorded O) (jobs : J → Part S C F J R O R) where
  keeps_to : (next : Part S C F J R O A → RunState S O → Outcome S F O A) (n : ℕ)
      → ((q : Part S C F J R O A) (v : RunState S O) → holds v.store → holds (state_of (next q v)).store)
      → (p : Part S C F J R O A) (w : RunState S O) → holds w.store
      → holds (state_of (run_to l r jobs next n p w)).store
  keeps_to next n h (End a) w k = k
  keeps_to next n h (Fail f) w k = k
  keeps_to next n h (Step p) w k = h p w k
  keeps_to next n h (Look p) w k = keeps_to next n h (p w.store) w k
  keeps_to next n h (Change c p) w k =
      keeps_to next n h p (with_store (l.apply c w.store) w) (keeps c w.store k)
  keeps_to next n h (Begin job p) w k = h (and_then (jobs job) p) w k
  keeps_to next n h (Print line p) w k =
      either_way (λ x. holds (state_of x).store) (has_room l line w) _ _ (keeps_to next n h p (with_line line w) k) k
  keeps_to next n h (Perform o p) w k = keeps_to next n h p (with_operation r.performed o w) k
  keeps_to next n h (Emit o p) w k = keeps_to next n h p (with_hook r.emitted o w) k

  keeps_step : (n : ℕ) (p : Part S C F J R O A) (w : RunState S O) → holds w.store
      → holds (state_of (step l r jobs n p w)).store
  keeps_step zero p w k = k
  keeps_step (suc n) p w k = keeps_to (λ q v. step l r jobs n q v) n (λ q v. keeps_step n q v) p w k

  pub run_keeps : (n : ℕ) (p : Part S C F J R O A) (w : RunState S O) → holds w.store
      → holds (state_of (run l r jobs n p w)).store
  run_keeps n p w k = keeps_to (λ q v. step l r jobs n q v) n (λ q v. keeps_step n q v) p w k
