-- What following means for whole runs.
use Rattle.std.proofs.Common.{◌≡◌, ℕ, ◌+◌, ◌-◌, ◌*◌, ◌≤◌, Bool, List, [], refl, ⊎_elim, subst, arith}
use Rattle.std.proofs.lemmas.Bool.{cases_lt}
use Rattle.jl_effects.specs.Effects.{Part}
use Rattle.jl_effects.specs.Running.{Language, RunState, nothing_done, everything, keeping, Finish, Outcome}
use Rattle.jl_effects.specs.Running.{Over, Spent, run, IsOver, state_of, steps_taken}
use Rattle.jl_effects.specs.Matching.{Matches, JobsMatch, Alike, IsWithin, Simulates, step_bound}
use Rattle.jl_effects.specs.Following.{Runs, runs, retold, IsEnd, is_end, IsCut, is_cut, Follows}
use Rattle.jl_effects.proofs.MatchRuns.{follows}

-- how a run stands to one that it follows, which had as many steps
data Beside {S F O A : Type 0} (kept : O → Bool) (m : ℕ) : Outcome S F O A → Outcome S F O A → Type 0 where
  both_over : {e : Finish F A} {v : RunState S O} {left left' : ℕ} {own : List O}
      → m - left ≤ m - left' → m - left' ≤ step_bound (m - left)
      → Beside kept m (Over e left v) (Over e left' (retold kept v own))
  second_cut : {e : Finish F A} {left : ℕ} {v w : RunState S O} → IsWithin kept v w
      → Beside kept m (Over e left v) (Spent w)
  both_cut : {v w : RunState S O} → IsWithin kept v w → Beside kept m (Spent v) (Spent w)

module _ {S F O A : Type 0} (kept : O → Bool) (m : ℕ) where
  end_beside : (e : Finish F A) (v : RunState S O) (left steps : ℕ) (q : Outcome S F O A) → left ≤ m → m ≤ steps + left
      → steps + 32 * left ≤ 32 * m + 64 → IsEnd kept e v steps m q → Beside kept m (Over e left v) q
  end_beside e v left steps _ takes low high (is_end h) = both_over (omega arith) (omega arith)

  cut_beside : (e : Finish F A) (left : ℕ) (v : RunState S O) (q : Outcome S F O A) → IsCut (IsWithin kept) v q
      → Beside kept m (Over e left v) q
  cut_beside e left v _ (is_cut h) = second_cut h

  spent_beside : (v : RunState S O) (q : Outcome S F O A) → IsCut (IsWithin kept) v q → Beside kept m (Spent v) q
  spent_beside v _ (is_cut h) = both_cut h

  beside : (second : Runs S F O A) (r : Outcome S F O A) → Follows kept (IsWithin kept) 64 m r second
      → Beside kept m r (second [] m)
  beside second (Over e left v) f =
      ⊎_elim (λ lt. cut_beside e left v (second [] m) (f.short [] m lt))
      (λ le. end_beside e v left f.steps (second [] m) f.takes f.no_fewer f.not_many_more (f.over [] m le))
      (cases_lt m f.steps)
  beside second (Spent v) f = spent_beside v (second [] m) (f [] m (omega arith))

  leads : {r q : Outcome S F O A} → Beside kept m r q → IsOver q → Alike kept r q
  leads (both_over low high) over = (refl, record { store = refl; output = refl; hooks = refl })
  leads (second_cut h) over = absurd over
  leads (both_cut h) over = absurd over

  no_fewer : {r q : Outcome S F O A} → Beside kept m r q → IsOver q → steps_taken m r ≤ steps_taken m q
  no_fewer (both_over low high) over = low
  no_fewer (second_cut h) over = absurd over
  no_fewer (both_cut h) over = absurd over

  not_many_more : {r q : Outcome S F O A} → Beside kept m r q → IsOver q
      → steps_taken m q ≤ step_bound (steps_taken m r)
  not_many_more (both_over low high) over = high
  not_many_more (second_cut h) over = absurd over
  not_many_more (both_cut h) over = absurd over

  within : {r q : Outcome S F O A} (w : RunState S O) → Beside kept m r q → q ≡ Spent w → IsWithin kept (state_of r) w
  within w (both_over low high) is = cc
  within w (second_cut {v = v} {w = u} h) is = let same : u ≡ w = cc in subst (IsWithin kept v) same h
  within w (both_cut {v = v} {w = u} h) is = let same : u ≡ w = cc in subst (IsWithin kept v) same h

alike_end : {S F O A : Type 0} (kept : O
    → Bool) (e : Finish F A) (v : RunState S O) (left s b : ℕ) (r : Outcome S F O A) → IsEnd kept e v s b r
    → Alike kept (Over e left v) r
alike_end kept e v left s b _ (is_end h) = (refl, record { store = refl; output = refl; hooks = refl })

-- with steps enough the second run is over where the first is
follows_over : {S F O A : Type 0} (kept : O → Bool) (second : Runs S F O A) (n : ℕ) (r : Outcome S F O A)
    → Follows kept (IsWithin kept) 64 n r second
    → IsOver r → Alike kept r (second [] (step_bound n))
follows_over kept second n (Over e left v) f over =
    let high = f.not_many_more in
    alike_end kept e v left f.steps (step_bound n) (second [] (step_bound n)) (f.over [] (step_bound n) (omega arith))
follows_over kept second n (Spent v) f over = absurd over

-- what follows from the beginning on, with 64 steps to spare, simulates
pub simulates_from : {S F O A : Type 0} (kept : O → Bool) (second : Runs S F O A) (first : ℕ → Outcome S F O A)
    → ((n : ℕ) → Follows kept (IsWithin kept) 64 n (first n) second) → Simulates kept first (second [])
simulates_from kept second first at = record {
  follows = λ n. follows_over kept second n (first n) (at n);
  leads = λ m. leads kept m (beside kept m second (first m) (at m));
  no_fewer = λ m. no_fewer kept m (beside kept m second (first m) (at m));
  not_many_more = λ m. not_many_more kept m (beside kept m second (first m) (at m));
  within = λ m w. within kept m w (beside kept m second (first m) (at m));
}

-- matching parts simulate
pub simulates : {S C F J R O A : Type 0} (l : Language S C F) (kept : O → Bool) (IsPair : J → J → Type 0)
    (first second : J → Part S C F J R O R) → JobsMatch l.apply kept IsPair first second
    → (s : S) (p q : Part S C F J R O A) → Matches l.apply kept IsPair s 64 0 p q
    → Simulates kept (λ n. run l everything first n p (nothing_done s))
    (λ n. run l (keeping kept) second n q (nothing_done s))
simulates l kept IsPair first second jobs s p q m =
    simulates_from kept (runs l kept second q (nothing_done s)) (λ n. run l everything first n p (nothing_done s))
    (λ n. follows l kept IsPair first second jobs n m [] [] [])
