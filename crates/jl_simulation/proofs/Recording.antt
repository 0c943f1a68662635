-- What simulates a run simulates it whatever the run records of hooks of its own.
use Rattle.std.proofs.Common.{◌≡◌, ℕ, ◌≤◌, Bool, refl, sym, subst}
use Rattle.jl_effects.specs.Effects.{Part}
use Rattle.jl_effects.specs.Matching.{step_bound, Alike, IsWithin, Simulates}
use Rattle.jl_effects.specs.Running.{everything, keeping, nothing_done, run, state_of, steps_taken, IsOver, Language}
use Rattle.jl_effects.specs.Running.{Outcome, Over, RunState, Spent}
use Rattle.jl_effects.specs.Traces.{keep_hooks, with_state}
use Rattle.jl_effects.proofs.Traces.{run_keeping}

module _ {S F O A : Type 0} (kept : O → Bool) where
  -- of the first run the hooks don't count
  over : (r : Outcome S F O A) → IsOver (with_state (keep_hooks kept) r) → IsOver r
  over (Over e left w) h = tt
  over (Spent w) h = absurd h

  alike : (r q : Outcome S F O A) → Alike kept r q → Alike kept (with_state (keep_hooks kept) r) q
  alike (Over e m v) (Over f n w) h =
      (h.0, record { store = h.1.store; output = h.1.output; hooks = h.1.hooks })
  alike (Over e m v) (Spent w) h = absurd h
  alike (Spent v) q h = absurd h

  steps_same : (m : ℕ) (r : Outcome S F O A) → steps_taken m r ≡ steps_taken m (with_state (keep_hooks kept) r)
  steps_same m (Over e left w) = refl
  steps_same m (Spent w) = refl

  within : (r : Outcome S F O A) (w : RunState S O) → IsWithin kept (state_of r) w
      → IsWithin kept (state_of (with_state (keep_hooks kept) r)) w
  within (Over e left v) w h = record { output = h.output; hooks = h.hooks }
  within (Spent v) w h = record { output = h.output; hooks = h.hooks }

  same_hooks : (first second : ℕ → Outcome S F O A) → Simulates kept first second
      → Simulates kept (λ n. with_state (keep_hooks kept) (first n)) second
  same_hooks first second x = record {
    follows = λ n h. alike (first n) (second (step_bound n)) (x.follows n (over (first n) h));
    leads = λ m h. alike (first m) (second m) (x.leads m h);
    no_fewer = λ m h. subst (λ k. k ≤ steps_taken m (second m)) (steps_same m (first m)) (x.no_fewer m h);
    not_many_more = λ m h.
        subst (λ k. steps_taken m (second m) ≤ step_bound k) (steps_same m (first m)) (x.not_many_more m h);
    within = λ m w h. within (first m) w (x.within m w h);
  }

  -- a first run that is the same, but for hooks that are kept
  renamed : (first first' second : ℕ → Outcome S F O A)
      → ((n : ℕ) → first' n ≡ with_state (keep_hooks kept) (first n)) → Simulates kept first second
      → Simulates kept first' second
  renamed first first' second is x =
      let y : Simulates kept (λ n. with_state (keep_hooks kept) (first n)) second = same_hooks first second x in
      record {
        follows = λ n h. subst (λ r. Alike kept r (second (step_bound n))) (sym (is n)) (y.follows n (subst IsOver
            (is n) h));
        leads = λ m h. subst (λ r. Alike kept r (second m)) (sym (is m)) (y.leads m h);
        no_fewer = λ m h. subst (λ r. steps_taken m r ≤ steps_taken m (second m)) (sym (is m)) (y.no_fewer m h);
        not_many_more = λ m h.
            subst (λ r. steps_taken m (second m) ≤ step_bound (steps_taken m r)) (sym (is m)) (y.not_many_more m h);
        within = λ m w h. subst (λ r. IsWithin kept (state_of r) w) (sym (is m)) (y.within m w h);
      }

pub simulates_keeping : {S C F J R O A : Type 0} (l : Language S C F) (kept : O → Bool) (jobs : J → Part S C F J R O R)
    (p : Part S C F J R O A) (s : S) (second : ℕ → Outcome S F O A)
    → Simulates kept (λ n. run l everything jobs n p (nothing_done s)) second
    → Simulates kept (λ n. run l (keeping kept) jobs n p (nothing_done s)) second
simulates_keeping l kept jobs p s second x =
    renamed kept (λ n. run l everything jobs n p (nothing_done s)) (λ n. run l (keeping kept) jobs n p (nothing_done s))
    second (λ n. run_keeping l kept jobs n p (nothing_done s)) x
