-- Parts of which no operations are kept that the script performs: their runs, and parts in a row.
use Rattle.std.proofs.Common.{◌≡◌, ℕ, zero, suc, refl, ap, ◌∙◌, Bool}
use mathlib.Core.Path.{fun_ext}
use Rattle.jl_effects.specs.Effects.{Part, End, Fail, Step, Look, Change, Begin, Print, Perform, Emit, and_then}
use Rattle.jl_effects.specs.Running.{Language, RunState, Outcome, run_to, step, run, with_store}
use Rattle.jl_effects.specs.Running.{with_line, with_hook, has_room}
use Rattle.jl_effects.specs.Traces.{quietly}
use Rattle.jl_effects.proofs.Growth.{both_ways}

-- the part without what the script performs, where jobs are renamed
abbrev pub quiet_part : {S C F J R O A : Type 0} → (J → J) → Part S C F J R O A → Part S C F J R O A
quiet_part of (End a) = End a
quiet_part of (Fail f) = Fail f
quiet_part of (Step p) = Step (quiet_part of p)
quiet_part of (Look p) = Look (λ store. quiet_part of (p store))
quiet_part of (Change c p) = Change c (quiet_part of p)
quiet_part of (Begin job p) = Begin (of job) (λ end. quiet_part of (p end))
quiet_part of (Print line p) = Print line (quiet_part of p)
quiet_part of (Perform o p) = quiet_part of p
quiet_part of (Emit o p) = Emit o (quiet_part of p)

pub quiet_then : {S C F J R O A B : Type 0} (of : J → J) (p : Part S C F J R O A) (k : A → Part S C F J R O B)
    → quiet_part of (and_then p k) ≡ and_then (quiet_part of p) (λ a. quiet_part of (k a))
quiet_then of (End a) k = refl
quiet_then of (Fail f) k = refl
quiet_then of (Step p) k = ap Step (quiet_then of p k)
quiet_then of (Look p) k = ap Look (fun_ext (λ s. quiet_then of (p s) k))
quiet_then of (Change c p) k = ap (Change c) (quiet_then of p k)
quiet_then of (Begin job p) k = ap (Begin (of job)) (fun_ext (λ end. quiet_then of (p end) k))
quiet_then of (Print line p) k = ap (Print line) (quiet_then of p k)
quiet_then of (Perform o p) k = quiet_then of p k
quiet_then of (Emit o p) k = ap (Emit o) (quiet_then of p k)

-- Where the second table has the quieted parts of the jobs of the first, under their new names, quiet runs of a part
-- and of the quieted part are the same.
module _ {S C F J R O : Type 0} (l : Language S C F) (kept : O → Bool) (of : J → J)
    (first second : J → Part S C F J R O R)
    (same : (j : J) → quiet_part of (first j) ≡ second (of j)) {A : Type 0} where
  same_to : (next next' : Part S C F J R O A → RunState S O → Outcome S F O A) (n : ℕ)
      → ((p : Part S C F J R O A) (v : RunState S O) → next p v ≡ next' (quiet_part of p) v)
      → (p : Part S C F J R O A) (w : RunState S O)
      → run_to l (quietly kept) first next n p w ≡ run_to l (quietly kept) second next' n (quiet_part of p) w
  same_to next next' n h (End a) w = refl
  same_to next next' n h (Fail f) w = refl
  same_to next next' n h (Step p) w = h p w
  same_to next next' n h (Look p) w = same_to next next' n h (p w.store) w
  same_to next next' n h (Change c p) w = same_to next next' n h p (with_store (l.apply c w.store) w)
  same_to next next' n h (Begin job p) w =
      h (and_then (first job) p) w
      ∙ ap (λ q. next' q w) (quiet_then of (first job) p
      ∙ ap (λ q. and_then q (λ end. quiet_part of (p end))) (same job))
  same_to next next' n h (Print line p) w =
      both_ways (λ x y. x ≡ y) (has_room l line w) _ _ _ _ (same_to next next' n h p (with_line line w)) refl
  same_to next next' n h (Perform o p) w = same_to next next' n h p w
  same_to next next' n h (Emit o p) w = same_to next next' n h p (with_hook kept o w)

  same_step : (n : ℕ) (p : Part S C F J R O A) (w : RunState S O)
      → step l (quietly kept) first n p w ≡ step l (quietly kept) second n (quiet_part of p) w
  same_step zero p w = refl
  same_step (suc n) p w =
      same_to (λ q v. step l (quietly kept) first n q v) (λ q v. step l (quietly kept) second n q v) n
      (λ q v. same_step n q v) p w

  pub same_run : (n : ℕ) (p : Part S C F J R O A) (w : RunState S O)
      → run l (quietly kept) first n p w ≡ run l (quietly kept) second n (quiet_part of p) w
  same_run n p w =
      same_to (λ q v. step l (quietly kept) first n q v) (λ q v. step l (quietly kept) second n q v) n
      (λ q v. same_step n q v) p w
