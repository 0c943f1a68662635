-- The interpreter of trees of effects, and what it gives.
use Rattle.std.specs.Prelude.{ℕ, zero, suc, ◌-◌, List, [], ◌∷◌, ◌++◌, Bool, true, length, nat_le}
use Rattle.std.specs.Prelude.{if◌then◌else◌}
use Rattle.jl_effects.specs.Effects.{Part, End, Fail, Step, Look, Change, Begin, Print, Perform, Emit, and_then}

-- what is the same in all runs of programs of a language
pub record Language (S C F : Type 0) : Type 0 where
  -- what a change makes of a store
  pub apply : C → S → S
  -- the most bytes that a run prints
  pub limit : ℕ
  -- the fault of a line that would take the output past them
  pub full : F

-- which operations a run records, of those that the script performs and of those that hooks emit
pub record Recorded (O : Type 0) : Type 0 where
  pub performed : O → Bool
  pub emitted : O → Bool

abbrev pub any : {O : Type 0} → O → Bool
any o = true

-- all that the script performs, and of what hooks emit what is kept
abbrev pub keeping : {O : Type 0} → (kept : O → Bool) → Recorded O
keeping kept = record { performed = any; emitted = kept }

-- all
abbrev pub everything : {O : Type 0} → Recorded O
everything = keeping any

-- what a run has come to: the store, the bytes of its output, and the traces, of the operations that the script has
-- performed and of those that hooks have emitted
pub record RunState (S O : Type 0) : Type 0 where
  pub store : S
  pub output : List ℕ
  pub operations : List O
  pub hooks : List O

-- where a run begins with this store
abbrev pub nothing_done : {S O : Type 0} → S → RunState S O
nothing_done store = record { store = store; output = []; operations = []; hooks = [] }

abbrev pub with_store : {S O : Type 0} → S → RunState S O → RunState S O
with_store store w = record w { store = store }

abbrev pub with_line : {S O : Type 0} → List ℕ → RunState S O → RunState S O
with_line line w = record w { output = w.output ++ line ++ 10 ∷ [] }

-- a trace with one more operation, if that is recorded
abbrev pub trace_with : {O : Type 0} → (recorded : O → Bool) → O → List O → List O
trace_with recorded o trace = if recorded o then trace ++ o ∷ [] else trace

abbrev pub with_operation : {S O : Type 0} → (recorded : O → Bool) → O → RunState S O → RunState S O
with_operation recorded o w = record w { operations = trace_with recorded o w.operations }

abbrev pub with_hook : {S O : Type 0} → (recorded : O → Bool) → O → RunState S O → RunState S O
with_hook recorded o w = record w { hooks = trace_with recorded o w.hooks }

-- whether one more line may be printed
abbrev pub has_room : {S C F O : Type 0} → Language S C F → List ℕ → RunState S O → Bool
has_room language line w = nat_le (length (with_line line w).output) language.limit

-- how a run is over: the part has ended with this, or a fault has ended the run
pub data Finish (F A : Type 0) : Type 0 where
  Ends : A → Finish F A
  Fails : F → Finish F A

-- what a run comes to
pub data Outcome (S F O A : Type 0) : Type 0 where
  -- it is over, with this many steps left
  Over : Finish F A → (left : ℕ) → RunState S O → Outcome S F O A
  -- a step was needed, and none was left
  Spent : RunState S O → Outcome S F O A

-- The run of a part, where the part of a job is found in this table. A job may begin others without end, so the
-- recursion is on the steps that are left, and on the part up to its next step.
module _ {S C F J R O : Type 0} (language : Language S C F) (recorded : Recorded O)
    (jobs : J → Part S C F J R O R) where
  -- with n steps left up to the next step, from which `next` goes on
  abbrev pub run_to : {A : Type 0} → (next : Part S C F J R O A → RunState S O → Outcome S F O A) → ℕ
      → Part S C F J R O A → RunState S O → Outcome S F O A
  run_to next n (End a) w = Over (Ends a) n w
  run_to next n (Fail f) w = Over (Fails f) n w
  run_to next n (Step p) w = next p w
  run_to next n (Look p) w = run_to next n (p w.store) w
  run_to next n (Change c p) w = run_to next n p (with_store (language.apply c w.store) w)
  run_to next n (Begin job p) w = next (and_then (jobs job) p) w
  run_to next n (Print line p) w =
      if has_room language line w then run_to next n p (with_line line w) else Over (Fails language.full) n w
  run_to next n (Perform o p) w = run_to next n p (with_operation recorded.performed o w)
  run_to next n (Emit o p) w = run_to next n p (with_hook recorded.emitted o w)

  -- takes one of the n steps that are left, and goes on with the part
  abbrev pub step : {A : Type 0} → ℕ → Part S C F J R O A → RunState S O → Outcome S F O A
  step zero p w = Spent w
  step (suc n) p w = run_to (λ q v. step n q v) n p w

  -- the run of the part with n steps
  abbrev pub run : {A : Type 0} → ℕ → Part S C F J R O A → RunState S O → Outcome S F O A
  run n p w = run_to (λ q v. step n q v) n p w

-- it is over
abbrev pub IsOver : {S F O A : Type 0} → Outcome S F O A → Type 0
IsOver (Over e left w) = Unit {0}
IsOver (Spent w) = ⊥

-- the state that it has come to
abbrev pub state_of : {S F O A : Type 0} → Outcome S F O A → RunState S O
state_of (Over e left w) = w
state_of (Spent w) = w

-- the steps that a run with so many took
abbrev pub steps_taken : {S F O A : Type 0} → ℕ → Outcome S F O A → ℕ
steps_taken n (Over e left w) = n - left
steps_taken n (Spent w) = n

-- what comes to an outcome, and then goes on from its end
abbrev pub outcome_then : {S F O A B : Type 0} → Outcome S F O A → (A → (left : ℕ) → RunState S O → Outcome S F O B)
    → Outcome S F O B
outcome_then (Over (Ends a) left w) k = k a left w
outcome_then (Over (Fails f) left w) k = Over (Fails f) left w
outcome_then (Spent w) k = Spent w
