-- A run that keeps fewer of its hooks is simulated where the run with all of them is, since of the first run no hooks
-- are looked at.
use Rattle.std.proofs.Common.{◌≡◌, ℕ, ◌≤◌, Bool, refl, sym, ap, ◌∙◌, subst}
use Rattle.jl_effects.specs.Matching.{Alike, IsWithin, Simulates, step_bound}
use Rattle.jl_effects.specs.Running.{IsOver, Outcome, Over, RunState, Spent, state_of, steps_taken}
use Rattle.jl_effects.specs.Traces.{keep_hooks, with_state}

module _ {S F O A : Type 0} (kept : O → Bool) where
  abbrev fewer : Outcome S F O A → Outcome S F O A
  fewer r = with_state (keep_hooks kept) r

  fewer_over : (r : Outcome S F O A) → IsOver r → IsOver (fewer r)
  fewer_over (Over e n w) over = tt
  fewer_over (Spent w) over = over

  all_alike : (r s : Outcome S F O A) → Alike kept (fewer r) s → Alike kept r s
  all_alike (Over e m v) (Over f n w) a = (
    a.0,
    record { store = a.1.store; output = a.1.output; hooks = a.1.hooks },
  )
  all_alike (Over e m v) (Spent w) a = a
  all_alike (Spent v) s a = a

  all_steps : (n : ℕ) (r : Outcome S F O A) → steps_taken n (fewer r) ≡ steps_taken n r
  all_steps n (Over e m v) = refl
  all_steps n (Spent v) = refl

  all_within : (r : Outcome S F O A) (w : RunState S O) → IsWithin kept (state_of (fewer r)) w
      → IsWithin kept (state_of r) w
  all_within (Over e m v) w is = record { output = is.output; hooks = is.hooks }
  all_within (Spent v) w is = record { output = is.output; hooks = is.hooks }

  pub of_all_hooks : (first own second : ℕ → Outcome S F O A) → ((n : ℕ) → first n ≡ fewer (own n))
      → Simulates kept first second → Simulates kept own second
  of_all_hooks first own second is simulates = record {
    follows = λ n over. all_alike (own n) (second (step_bound n))
        (subst (λ r. Alike kept r (second (step_bound n))) (is n)
        (simulates.follows n (subst (λ r. IsOver r) (sym (is n)) (fewer_over (own n) over))));
    leads = λ m over. all_alike (own m) (second m)
        (subst (λ r. Alike kept r (second m)) (is m) (simulates.leads m over));
    no_fewer = λ m over. subst (λ k. k ≤ steps_taken m (second m)) (ap (steps_taken m) (is m) ∙ all_steps m (own m))
        (simulates.no_fewer m over);
    not_many_more = λ m over. subst (λ k. steps_taken m (second m) ≤ step_bound k)
        (ap (steps_taken m) (is m) ∙ all_steps m (own m)) (simulates.not_many_more m over);
    within = λ m w spent. all_within (own m) w
        (subst (λ r. IsWithin kept (state_of r) w) (is m) (simulates.within m w spent));
  }
