-- Parts one after another.
use Rattle.std.proofs.Common.{◌≡◌, ℕ, zero, suc, ◌+◌, ◌<◌, refl, sym, ap, ◌∙◌, arith}
use mathlib.Core.Path.{fun_ext}
use Rattle.jl_effects.specs.Effects.{Part, End, Fail, Step, Look, Change, Begin, Print, Perform, Emit}
use Rattle.jl_effects.specs.Effects.{and_then, steps, Row, row}
use Rattle.jl_effects.specs.Running.{Language, Recorded, RunState, with_store, with_line, with_operation, with_hook}
use Rattle.jl_effects.specs.Running.{has_room, Ends, Fails, Outcome, Over, Spent, run_to, step, run, outcome_then}
use Rattle.jl_effects.proofs.Growth.{both_ways}

pub and_then-assoc : {S C F J R O A B D : Type 0} (p : Part S C F J R O A) (k : A → Part S C F J R O B)
    (l : B → Part S C F J R O D) → and_then (and_then p k) l ≡ and_then p (λ a. and_then (k a) l)
and_then-assoc (End a) k l = refl
and_then-assoc (Fail f) k l = refl
and_then-assoc (Step p) k l = ap Step (and_then-assoc p k l)
and_then-assoc (Look p) k l = ap Look (fun_ext (λ s. and_then-assoc (p s) k l))
and_then-assoc (Change c p) k l = ap (Change c) (and_then-assoc p k l)
and_then-assoc (Begin job p) k l = ap (Begin job) (fun_ext (λ end. and_then-assoc (p end) k l))
and_then-assoc (Print line p) k l = ap (Print line) (and_then-assoc p k l)
and_then-assoc (Perform o p) k l = ap (Perform o) (and_then-assoc p k l)
and_then-assoc (Emit o p) k l = ap (Emit o) (and_then-assoc p k l)

pub and_then-end : {S C F J R O A : Type 0} (p : Part S C F J R O A) → and_then p End ≡ p
and_then-end (End a) = refl
and_then-end (Fail f) = refl
and_then-end (Step p) = ap Step (and_then-end p)
and_then-end (Look p) = ap Look (fun_ext (λ s. and_then-end (p s)))
and_then-end (Change c p) = ap (Change c) (and_then-end p)
and_then-end (Begin job p) = ap (Begin job) (fun_ext (λ end. and_then-end (p end)))
and_then-end (Print line p) = ap (Print line) (and_then-end p)
and_then-end (Perform o p) = ap (Perform o) (and_then-end p)
and_then-end (Emit o p) = ap (Emit o) (and_then-end p)

-- a row of two rows is one row after the other
pub row-and_then : {S C E F K J R O A B : Type 0} (call : K → J) (fault : E → F) (p : Row S C E K R A)
    (k : A → Row S C E K R B)
    → row {O = O} call fault (and_then p k) ≡ and_then (row call fault p) (λ a. row call fault (k a))
row-and_then call fault (End a) k = refl
row-and_then call fault (Fail f) k = refl
row-and_then call fault (Step p) k = ap Step (row-and_then call fault p k)
row-and_then call fault (Look p) k = ap Look (fun_ext (λ s. row-and_then call fault (p s) k))
row-and_then call fault (Change c p) k = ap (Change c) (row-and_then call fault p k)
row-and_then call fault (Begin c p) k = ap (Begin (call c)) (fun_ext (λ end. row-and_then call fault (p end) k))
row-and_then call fault (Print line p) k = ap (Print line) (row-and_then call fault p k)
row-and_then call fault (Perform o p) k = absurd o
row-and_then call fault (Emit o p) k = absurd o

-- A run of one part and then another is a run of the first, and then of the second.
module _ {S C F J R O A B : Type 0} (l : Language S C F) (r : Recorded O) (jobs : J → Part S C F J R O R)
    (k : A → Part S C F J R O B) where
  abbrev on : Outcome S F O A → Outcome S F O B
  on x = outcome_then x (λ a m v. run l r jobs m (k a) v)

  then_to : (next : Part S C F J R O A → RunState S O → Outcome S F O A)
      (next' : Part S C F J R O B → RunState S O → Outcome S F O B) (n : ℕ)
      → ((q : Part S C F J R O A) (v : RunState S O) → next' (and_then q k) v ≡ on (next q v))
      → ((q : Part S C F J R O B) (v : RunState S O) → next' q v ≡ step l r jobs n q v)
      → (p : Part S C F J R O A) (w : RunState S O)
      → run_to l r jobs next' n (and_then p k) w ≡ on (run_to l r jobs next n p w)
  then_to next next' n h e (End a) w = ap (λ f. run_to l r jobs f n (k a) w) (fun_ext (λ q. fun_ext (λ v. e q v)))
  then_to next next' n h e (Fail f) w = refl
  then_to next next' n h e (Step p) w = h p w
  then_to next next' n h e (Look p) w = then_to next next' n h e (p w.store) w
  then_to next next' n h e (Change c p) w = then_to next next' n h e p (with_store (l.apply c w.store) w)
  then_to next next' n h e (Begin job p) w =
      ap (λ q. next' q w) (sym (and_then-assoc (jobs job) p k)) ∙ h (and_then (jobs job) p) w
  then_to next next' n h e (Print line p) w =
      both_ways (λ x y. x ≡ on y) (has_room l line w) _ _ _ _ (then_to next next' n h e p (with_line line w)) refl
  then_to next next' n h e (Perform o p) w = then_to next next' n h e p (with_operation r.performed o w)
  then_to next next' n h e (Emit o p) w = then_to next next' n h e p (with_hook r.emitted o w)

  then_step : (n : ℕ) (p : Part S C F J R O A) (w : RunState S O)
      → step l r jobs n (and_then p k) w ≡ on (step l r jobs n p w)
  then_step zero p w = refl
  then_step (suc n) p w =
      then_to (λ q v. step l r jobs n q v) (λ q v. step l r jobs n q v) n (λ q v. then_step n q v) (λ q v. refl) p w

  pub run-and_then : (n : ℕ) (p : Part S C F J R O A) (w : RunState S O)
      → run l r jobs n (and_then p k) w ≡ outcome_then (run l r jobs n p w) (λ a m v. run l r jobs m (k a) v)
  run-and_then n p w =
      then_to (λ q v. step l r jobs n q v) (λ q v. step l r jobs n q v) n (λ q v. then_step n q v) (λ q v. refl) p w

  -- the same, by what the first part comes to

  pub run_then : (n : ℕ) (p : Part S C F J R O A) (w : RunState S O) (a : A) (m : ℕ) (v : RunState S O)
      → run l r jobs n p w ≡ Over (Ends a) m v → run l r jobs n (and_then p k) w ≡ run l r jobs m (k a) v
  run_then n p w a m v e = run-and_then n p w ∙ ap on e

  pub run_then_fails : (n : ℕ) (p : Part S C F J R O A) (w : RunState S O) (f : F) (m : ℕ) (v : RunState S O)
      → run l r jobs n p w ≡ Over (Fails f) m v → run l r jobs n (and_then p k) w ≡ Over (Fails f) m v
  run_then_fails n p w f m v e = run-and_then n p w ∙ ap on e

  pub run_then_spent : (n : ℕ) (p : Part S C F J R O A) (w v : RunState S O) → run l r jobs n p w ≡ Spent v
      → run l r jobs n (and_then p k) w ≡ Spent v
  run_then_spent n p w v e = run-and_then n p w ∙ ap on e

-- what comes after a part makes no difference where it only ends with what the part ended with, as an operation that
-- is not recorded
module _ {S C F J R O A : Type 0} (l : Language S C F) (r : Recorded O) (jobs : J → Part S C F J R O R)
    (k : A → Part S C F J R O A)
    (nothing : (a : A) (m : ℕ) (v : RunState S O) → run l r jobs m (k a) v ≡ Over (Ends a) m v) where
  ends_so : (x : Outcome S F O A) → outcome_then x (λ a m v. run l r jobs m (k a) v) ≡ x
  ends_so (Over (Ends a) m v) = nothing a m v
  ends_so (Over (Fails f) m v) = refl
  ends_so (Spent v) = refl

  pub run_then_nothing : (n : ℕ) (p : Part S C F J R O A) (w : RunState S O)
      → run l r jobs n (and_then p k) w ≡ run l r jobs n p w
  run_then_nothing n p w = run-and_then l r jobs k n p w ∙ ends_so (run l r jobs n p w)

-- Several steps.
module _ {S C F J R O A : Type 0} (l : Language S C F) (r : Recorded O) (jobs : J → Part S C F J R O R) where
  pub run_steps : (k n m : ℕ) (p : Part S C F J R O A) (w : RunState S O) → m + k ≡ n
      → run l r jobs n (steps k p) w ≡ run l r jobs m p w
  run_steps zero n m p w e = let same : n ≡ m = omega arith in ap (λ x. run l r jobs x p w) same
  run_steps (suc k) zero m p w e = absurd (omega arith)
  run_steps (suc k) (suc n) m p w e = run_steps k n m p w (omega arith)

  pub run_steps_spent : (k n : ℕ) (p : Part S C F J R O A) (w : RunState S O) → n < k
      → run l r jobs n (steps k p) w ≡ Spent w
  run_steps_spent zero n p w h = absurd (omega arith)
  run_steps_spent (suc k) zero p w h = refl
  run_steps_spent (suc k) (suc n) p w h = run_steps_spent k n p w (omega arith)
