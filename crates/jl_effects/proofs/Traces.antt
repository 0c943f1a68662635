-- Runs that record less: they come to the same, but for their traces.
use Rattle.std.proofs.Common.{◌≡◌, ℕ, zero, suc, List, [], ◌∷◌, ◌++◌, Bool, true, false, filter}
use Rattle.std.proofs.Common.{refl, sym, ap, ◌∙◌, append-nil}
use Rattle.std.specs.Prelude.{if◌then◌else◌}
use Rattle.std.proofs.lemmas.List.Elements.{filter-append}
use Rattle.jl_effects.specs.Effects.{Part, End, Fail, Step, Look, Change, Begin, Print, Perform, Emit, and_then}
use Rattle.jl_effects.specs.Running.{Language, Recorded, RunState, with_store, with_line, with_operation, with_hook}
use Rattle.jl_effects.specs.Running.{any, everything, keeping}
use Rattle.jl_effects.specs.Traces.{quietly, keep_hooks, without_operations, with_state}
use Rattle.jl_effects.specs.Running.{trace_with, has_room, Outcome, run_to, step, run}
use Rattle.jl_effects.proofs.Growth.{both_ways}

-- of a trace with one more operation the kept ones are those of the trace, with that operation if it is kept
pub kept_trace : {O : Type 0} (kept : O → Bool) (trace : List O) (o : O)
    → filter kept (trace ++ o ∷ []) ≡ trace_with kept o (filter kept trace)
kept_trace kept trace o = filter-append kept trace (o ∷ []) ∙ last (kept o)
  where
    last : (b : Bool) → filter kept trace ++ (if b then o ∷ [] else [])
        ≡ (if b then filter kept trace ++ o ∷ [] else filter kept trace)
    last true = refl
    last false = append-nil (filter kept trace)

-- where all is kept
pub filter_any : {O : Type 0} (trace : List O) → filter any trace ≡ trace
filter_any [] = refl
filter_any (o ∷ trace) = ap (λ rest. o ∷ rest) (filter_any trace)

-- the state, with what these make of its traces
abbrev traced : {S O : Type 0} → (f g : List O → List O) → RunState S O → RunState S O
traced f g w = record w { operations = f w.operations; hooks = g w.hooks }

-- Two ways of recording, such that these make the traces of the second of those of the first.
module _ {S C F J R O A : Type 0} (l : Language S C F) (jobs : J → Part S C F J R O R) (r q : Recorded O)
    (f g : List O → List O)
    (operations : (trace : List O) (o : O)
    → trace_with q.performed o (f trace) ≡ f (trace_with r.performed o trace))
    (hooks : (trace : List O) (o : O)
    → trace_with q.emitted o (g trace) ≡ g (trace_with r.emitted o trace)) where
  seen_to : (next next' : Part S C F J R O A → RunState S O → Outcome S F O A) (n : ℕ)
      → ((p : Part S C F J R O A) (v : RunState S O)
      → next' p (traced f g v) ≡ with_state (traced f g) (next p v))
      → (p : Part S C F J R O A) (w : RunState S O)
      → run_to l q jobs next' n p (traced f g w) ≡ with_state (traced f g) (run_to l r jobs next n p w)
  seen_to next next' n h (End a) w = refl
  seen_to next next' n h (Fail f) w = refl
  seen_to next next' n h (Step p) w = h p w
  seen_to next next' n h (Look p) w = seen_to next next' n h (p w.store) w
  seen_to next next' n h (Change c p) w = seen_to next next' n h p (with_store (l.apply c w.store) w)
  seen_to next next' n h (Begin job p) w = h (and_then (jobs job) p) w
  seen_to next next' n h (Print line p) w =
      both_ways (λ x y. x ≡ with_state (traced f g) y) (has_room l line w) _ _ _ _
      (seen_to next next' n h p (with_line line w)) refl
  seen_to next next' n h (Perform o p) w =
      ap (λ trace. run_to l q jobs next' n p (record (traced f g w) { operations = trace })) (operations w.operations o)
      ∙ seen_to next next' n h p (with_operation r.performed o w)
  seen_to next next' n h (Emit o p) w =
      ap (λ trace. run_to l q jobs next' n p (record (traced f g w) { hooks = trace })) (hooks w.hooks o)
      ∙ seen_to next next' n h p (with_hook r.emitted o w)

  seen_step : (n : ℕ) (p : Part S C F J R O A) (w : RunState S O)
      → step l q jobs n p (traced f g w) ≡ with_state (traced f g) (step l r jobs n p w)
  seen_step zero p w = refl
  seen_step (suc n) p w =
      seen_to (λ p v. step l r jobs n p v) (λ p v. step l q jobs n p v) n (λ p v. seen_step n p v) p w

  pub seen_run : (n : ℕ) (p : Part S C F J R O A) (w : RunState S O)
      → run l q jobs n p (traced f g w) ≡ with_state (traced f g) (run l r jobs n p w)
  seen_run n p w =
      seen_to (λ p v. step l r jobs n p v) (λ p v. step l q jobs n p v) n (λ p v. seen_step n p v) p w

module _ {S C F J R O A : Type 0} (l : Language S C F) (kept : O → Bool) (jobs : J → Part S C F J R O R) where
  -- only the hooks depend on what is kept of them
  pub run_keeping : (n : ℕ) (p : Part S C F J R O A) (w : RunState S O)
      → run l (keeping kept) jobs n p (keep_hooks kept w) ≡ with_state (keep_hooks kept) (run l everything jobs n p w)
  run_keeping n p w =
      seen_run l jobs everything (keeping kept) (λ trace. trace) (filter kept) (λ trace o. refl)
      (λ trace o. sym (kept_trace kept trace o)) n p w

  -- a quiet run comes to the same, but for what the script performs
  pub run_quietly : (n : ℕ) (p : Part S C F J R O A) (w : RunState S O)
      → run l (quietly kept) jobs n p (without_operations w)
      ≡ with_state without_operations (run l (keeping kept) jobs n p w)
  run_quietly n p w =
      seen_run l jobs (keeping kept) (quietly kept) (λ trace. []) (λ trace. trace) (λ trace o. refl) (λ trace o. refl)
      n p w
