-- Parts that fail by allowed faults alone: how they follow one another, their runs, and rows.
use Rattle.std.proofs.Common.{◌≡◌, ℕ, zero, suc, subst}
use Rattle.jl_effects.specs.Effects.{Part, End, Fail, Step, Look, Change, Begin, Print, Perform, Emit, and_then}
use Rattle.jl_effects.specs.Effects.{Row, row}
use Rattle.jl_effects.specs.Running.{Language, Recorded, RunState, with_store, with_line, with_operation, with_hook}
use Rattle.jl_effects.specs.Running.{has_room, Outcome, run_to, step, run}
use Rattle.jl_effects.specs.Keeping.{FailsAllowed}
use Rattle.jl_effects.specs.inner.Steady.{IsSteady}
use Rattle.jl_effects.proofs.Growth.{either_way}

module _ {S C F J R I : Type 0} (apply : C → S → S) (Keeps : S → S → Type 0) (IsAllowed : F → Type 0) (job_of : I → J)
    (IsJobEnd : I → R → Type 0) where
  abbrev Steady : {O A : Type 0} → S → (A → S → Type 0) → Part S C F J R O A → Type 0
  Steady s E p = IsSteady apply Keeps IsAllowed job_of IsJobEnd s E p

  -- parts in a row
  pub steady_then : {O A B : Type 0} (s : S) (E : A → S → Type 0) (E' : B → S → Type 0) (p : Part S C F J R O A)
      (k : A → Part S C F J R O B) → Steady s E p → ((a : A) (t : S) → E a t → Steady t E' (k a))
      → Steady s E' (and_then p k)
  steady_then s E E' (End a) k h f = f a s h
  steady_then s E E' (Fail x) k h f = h
  steady_then s E E' (Step p) k h f = steady_then s E E' p k h f
  steady_then s E E' (Look p) k h f = steady_then s E E' (p s) k h f
  steady_then s E E' (Change c p) k h f = steady_then (apply c s) E E' p k h f
  steady_then s E E' (Begin j p) k h f = (h.0, h.1, λ r t kept e. steady_then t E E' (p r) k (h.2 r t kept e) f)
  steady_then s E E' (Print line p) k h f = steady_then s E E' p k h f
  steady_then s E E' (Perform o p) k h f = steady_then s E E' p k h f
  steady_then s E E' (Emit o p) k h f = steady_then s E E' p k h f

  -- what is allowed at the end may be less
  pub steady_weaken : {O A : Type 0} (s : S) (E E' : A → S → Type 0) (p : Part S C F J R O A)
      → ((a : A) (t : S) → E a t → E' a t) → Steady s E p → Steady s E' p
  steady_weaken s E E' (End a) f h = f a s h
  steady_weaken s E E' (Fail x) f h = h
  steady_weaken s E E' (Step p) f h = steady_weaken s E E' p f h
  steady_weaken s E E' (Look p) f h = steady_weaken s E E' (p s) f h
  steady_weaken s E E' (Change c p) f h = steady_weaken (apply c s) E E' p f h
  steady_weaken s E E' (Begin j p) f h = (h.0, h.1, λ r t kept e. steady_weaken t E E' (p r) f (h.2 r t kept e))
  steady_weaken s E E' (Print line p) f h = steady_weaken s E E' p f h
  steady_weaken s E E' (Perform o p) f h = steady_weaken s E E' p f h
  steady_weaken s E E' (Emit o p) f h = steady_weaken s E E' p f h

  -- A row keeps what every change and every call keep, and its faults are allowed if those of its type are.
  module _ {E K A : Type 0} (call : K → J) (fault : E → F) (named : (k : K) → (i : I) × (job_of i ≡ call k))
      (faults : (e : E) → IsAllowed (fault e)) (changes : (c : C) (s : S) → Keeps s (apply c s))
      (on : (s t u : S) → Keeps s t → Keeps t u → Keeps s u) (s : S) where
    row_from : (O : Type 0) (p : Row S C E K R A) (t : S) → Keeps s t
        → Steady {O = O} t (λ a u. Keeps s u) (row call fault p)
    row_from O (End a) t h = h
    row_from O (Fail e) t h = faults e
    row_from O (Step p) t h = row_from O p t h
    row_from O (Look p) t h = row_from O (p t) t h
    row_from O (Change c p) t h = row_from O p (apply c t) (on s t (apply c t) h (changes c t))
    row_from O (Begin k p) t h = ((named k).0, (named k).1, λ r u kept e. row_from O (p r) u (on s t u h kept))
    row_from O (Print line p) t h = row_from O p t h
    row_from O (Perform o p) t h = absurd o
    row_from O (Emit o p) t h = absurd o

    pub row_steady : (O : Type 0) (same : (t : S) → Keeps t t) → (p : Row S C E K R A)
        → Steady {O = O} s (λ a t. Keeps s t) (row call fault p)
    row_steady O same p = row_from O p s (same s)

module _ {S C F J R O I : Type 0} (l : Language S C F) (recorded : Recorded O) (jobs : J → Part S C F J R O R)
    (Keeps : S → S → Type 0) (IsAllowed : F → Type 0) (job_of : I → J) (IsJobEnd : I → R → Type 0)
    (full : IsAllowed l.full)
    (steady : (i : I) (s : S)
    → IsSteady l.apply Keeps IsAllowed job_of IsJobEnd s (λ r t. Keeps s t × IsJobEnd i r) (jobs (job_of i)))
    {A : Type 0} (E : A → S → Type 0) where
  abbrev SteadyHere : S → Part S C F J R O A → Type 0
  SteadyHere s p = IsSteady l.apply Keeps IsAllowed job_of IsJobEnd s E p

  steady_to : (next : Part S C F J R O A → RunState S O → Outcome S F O A) (n : ℕ)
      → ((q : Part S C F J R O A) (v : RunState S O) → SteadyHere v.store q → FailsAllowed IsAllowed (next q v))
      → (p : Part S C F J R O A) (w : RunState S O) → SteadyHere w.store p
      → FailsAllowed IsAllowed (run_to l recorded jobs next n p w)
  steady_to next n h (End a) w s = tt
  steady_to next n h (Fail f) w s = s
  steady_to next n h (Step p) w s = h p w s
  steady_to next n h (Look p) w s = steady_to next n h (p w.store) w s
  steady_to next n h (Change c p) w s = steady_to next n h p (with_store (l.apply c w.store) w) s
  steady_to next n h (Begin job p) w s =
      let at = w.store in
      let End' : R → S → Type 0 = λ r t. Keeps at t × IsJobEnd s.0 r in
      h (and_then (jobs job) p) w
      (steady_then l.apply Keeps IsAllowed job_of IsJobEnd at End' E (jobs job) p
      (subst (λ j. IsSteady l.apply Keeps IsAllowed job_of IsJobEnd at End' (jobs j)) s.1 (steady s.0 at))
      (λ r t e. s.2 r t e.0 e.1))
  steady_to next n h (Print line p) w s =
      either_way (FailsAllowed IsAllowed) (has_room l line w) _ _ (steady_to next n h p (with_line line w) s) full
  steady_to next n h (Perform o p) w s = steady_to next n h p (with_operation recorded.performed o w) s
  steady_to next n h (Emit o p) w s = steady_to next n h p (with_hook recorded.emitted o w) s

  steady_step : (n : ℕ) (p : Part S C F J R O A) (w : RunState S O) → SteadyHere w.store p
      → FailsAllowed IsAllowed (step l recorded jobs n p w)
  steady_step zero p w s = tt
  steady_step (suc n) p w s =
      steady_to (λ q v. step l recorded jobs n q v) n (λ q v. steady_step n q v) p w s

  -- a run of a steady part fails by allowed faults alone
  pub steady_run : (n : ℕ) (p : Part S C F J R O A) (w : RunState S O) → SteadyHere w.store p
      → FailsAllowed IsAllowed (run l recorded jobs n p w)
  steady_run n p w s = steady_to (λ q v. step l recorded jobs n q v) n (λ q v. steady_step n q v) p w s
