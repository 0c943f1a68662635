-- A run takes nothing back, and more steps only add to it.
use Rattle.std.proofs.Common.{◌≡◌, ℕ, zero, suc, ◌+◌, List, [], ◌∷◌, ◌++◌, Bool, true, false}
use Rattle.std.proofs.Common.{refl, sym, ap, ◌∙◌, subst, arith, append_assoc, append-nil}
use Rattle.std.specs.Prelude.{if◌then◌else◌}
use Rattle.jl_effects.specs.Effects.{Part, End, Fail, Step, Look, Change, Begin, Print, Perform, Emit, and_then}
use Rattle.jl_effects.specs.Running.{Language, Recorded, RunState, with_store, with_line, with_operation, with_hook}
use Rattle.jl_effects.specs.Running.{trace_with, has_room, Finish, Outcome, Over, Spent, run_to, step, run, state_of}
use Rattle.jl_effects.specs.Growing.{IsPrefix, GoesOn, HasLeft, IsLonger}

-- what holds whichever way a test goes
pub either_way : {X : Type 0} (P : X → Type 0) (b : Bool) (x y : X) → P x → P y → P (if b then x else y)
either_way P true x y h k = h
either_way P false x y h k = k

pub both_ways : {X Y : Type 0} (P : X → Y → Type 0) (b : Bool) (x x' : X) (y y' : Y) → P x y → P x' y'
    → P (if b then x else x') (if b then y else y')
both_ways P true x x' y y' h k = h
both_ways P false x x' y y' h k = k

pub prefix_same : {A : Type 0} (a : List A) → IsPrefix a a
prefix_same a = ([], append-nil a)

pub prefix_more : {A : Type 0} (a r : List A) → IsPrefix a (a ++ r)
prefix_more a r = (r, refl)

pub prefix_on : {A : Type 0} (a b c : List A) → IsPrefix a b → IsPrefix b c → IsPrefix a c
prefix_on a b c p q = (p.0 ++ q.0, sym (append_assoc a p.0 q.0) ∙ ap (λ x. x ++ q.0) p.1 ∙ q.1)

prefix_line : (a line : List ℕ) → IsPrefix a (a ++ line ++ 10 ∷ [])
prefix_line a line = (line ++ 10 ∷ [], sym (append_assoc a line (10 ∷ [])))

prefix_trace : {O : Type 0} (recorded : O → Bool) (o : O) (trace : List O)
    → IsPrefix trace (trace_with recorded o trace)
prefix_trace recorded o trace =
    either_way (IsPrefix trace) (recorded o) _ _ (prefix_more trace (o ∷ [])) (prefix_same trace)

module _ {S O : Type 0} where
  pub goes_same : (v : RunState S O) → GoesOn v v
  goes_same v = record {
    output = prefix_same v.output;
    operations = prefix_same v.operations;
    hooks = prefix_same v.hooks;
  }

  pub goes_on : (u v w : RunState S O) → GoesOn u v → GoesOn v w → GoesOn u w
  goes_on u v w g h = record {
    output = prefix_on u.output v.output w.output g.output h.output;
    operations = prefix_on u.operations v.operations w.operations g.operations h.operations;
    hooks = prefix_on u.hooks v.hooks w.hooks g.hooks h.hooks;
  }

  goes_store : (s : S) (v w : RunState S O) → GoesOn (with_store s v) w → GoesOn v w
  goes_store s v w g = record { output = g.output; operations = g.operations; hooks = g.hooks }

  goes_line : (line : List ℕ) (v : RunState S O) → GoesOn v (with_line line v)
  goes_line line v = record {
    output = prefix_line v.output line;
    operations = prefix_same v.operations;
    hooks = prefix_same v.hooks;
  }

  goes_operation : (recorded : O → Bool) (o : O) (v : RunState S O) → GoesOn v (with_operation recorded o v)
  goes_operation recorded o v = record {
    output = prefix_same v.output;
    operations = prefix_trace recorded o v.operations;
    hooks = prefix_same v.hooks;
  }

  goes_hook : (recorded : O → Bool) (o : O) (v : RunState S O) → GoesOn v (with_hook recorded o v)
  goes_hook recorded o v = record {
    output = prefix_same v.output;
    operations = prefix_same v.operations;
    hooks = prefix_trace recorded o v.hooks;
  }

module _ {S C F J R O A : Type 0} (l : Language S C F) (r : Recorded O) (jobs : J → Part S C F J R O R) where
  grows_to : (next : Part S C F J R O A → RunState S O → Outcome S F O A) (n : ℕ)
      → ((q : Part S C F J R O A) (v : RunState S O) → GoesOn v (state_of (next q v)))
      → (p : Part S C F J R O A) (w : RunState S O) → GoesOn w (state_of (run_to l r jobs next n p w))
  grows_to next n h (End a) w = goes_same w
  grows_to next n h (Fail f) w = goes_same w
  grows_to next n h (Step p) w = h p w
  grows_to next n h (Look p) w = grows_to next n h (p w.store) w
  grows_to next n h (Change c p) w =
      let s = l.apply c w.store in goes_store s w _ (grows_to next n h p (with_store s w))
  grows_to next n h (Begin job p) w = h (and_then (jobs job) p) w
  grows_to next n h (Print line p) w =
      either_way (λ x. GoesOn w (state_of x)) (has_room l line w) _ _
      (goes_on w (with_line line w) _ (goes_line line w) (grows_to next n h p (with_line line w))) (goes_same w)
  grows_to next n h (Perform o p) w =
      let v = with_operation r.performed o w in
      goes_on w v _ (goes_operation r.performed o w) (grows_to next n h p v)
  grows_to next n h (Emit o p) w =
      let v = with_hook r.emitted o w in goes_on w v _ (goes_hook r.emitted o w) (grows_to next n h p v)

  grows_step : (n : ℕ) (p : Part S C F J R O A) (w : RunState S O) → GoesOn w (state_of (step l r jobs n p w))
  grows_step zero p w = goes_same w
  grows_step (suc n) p w = grows_to (λ q v. step l r jobs n q v) n (λ q v. grows_step n q v) p w

  -- a run goes on from where it begins
  pub runs_go_on : (n : ℕ) (p : Part S C F J R O A) (w : RunState S O) → GoesOn w (state_of (run l r jobs n p w))
  runs_go_on n p w = grows_to (λ q v. step l r jobs n q v) n (λ q v. grows_step n q v) p w

  left_to : (next : Part S C F J R O A → RunState S O → Outcome S F O A) (n : ℕ)
      → ((q : Part S C F J R O A) (v : RunState S O) → HasLeft n (next q v))
      → (p : Part S C F J R O A) (w : RunState S O) → HasLeft n (run_to l r jobs next n p w)
  left_to next n h (End a) w = omega arith
  left_to next n h (Fail f) w = omega arith
  left_to next n h (Step p) w = h p w
  left_to next n h (Look p) w = left_to next n h (p w.store) w
  left_to next n h (Change c p) w = left_to next n h p (with_store (l.apply c w.store) w)
  left_to next n h (Begin job p) w = h (and_then (jobs job) p) w
  left_to next n h (Print line p) w =
      either_way (HasLeft n) (has_room l line w) _ _ (left_to next n h p (with_line line w)) (omega arith)
  left_to next n h (Perform o p) w = left_to next n h p (with_operation r.performed o w)
  left_to next n h (Emit o p) w = left_to next n h p (with_hook r.emitted o w)

  left_more : (n : ℕ) (x : Outcome S F O A) → HasLeft n x → HasLeft (suc n) x
  left_more n (Over e left w) h = omega arith
  left_more n (Spent w) h = tt

  left_step : (n : ℕ) (p : Part S C F J R O A) (w : RunState S O) → HasLeft n (step l r jobs n p w)
  left_step zero p w = tt
  left_step (suc n) p w = left_more n _ (left_to (λ q v. step l r jobs n q v) n (λ q v. left_step n q v) p w)

  -- a run ends with no more steps left than it had
  pub has_left : (n : ℕ) (p : Part S C F J R O A) (w : RunState S O) → HasLeft n (run l r jobs n p w)
  has_left n p w = left_to (λ q v. step l r jobs n q v) n (λ q v. left_step n q v) p w

  more_to : (next next' : Part S C F J R O A → RunState S O → Outcome S F O A) (n d : ℕ)
      → ((q : Part S C F J R O A) (v : RunState S O) → IsLonger d (next q v) (next' q v))
      → (p : Part S C F J R O A) (w : RunState S O)
      → IsLonger d (run_to l r jobs next n p w) (run_to l r jobs next' (n + d) p w)
  more_to next next' n d h (End a) w = refl
  more_to next next' n d h (Fail f) w = refl
  more_to next next' n d h (Step p) w = h p w
  more_to next next' n d h (Look p) w = more_to next next' n d h (p w.store) w
  more_to next next' n d h (Change c p) w = more_to next next' n d h p (with_store (l.apply c w.store) w)
  more_to next next' n d h (Begin job p) w = h (and_then (jobs job) p) w
  more_to next next' n d h (Print line p) w =
      both_ways (IsLonger d) (has_room l line w) _ _ _ _ (more_to next next' n d h p (with_line line w)) refl
  more_to next next' n d h (Perform o p) w = more_to next next' n d h p (with_operation r.performed o w)
  more_to next next' n d h (Emit o p) w = more_to next next' n d h p (with_hook r.emitted o w)

  more_step : (n d m : ℕ) → m ≡ n + d → (p : Part S C F J R O A) (w : RunState S O)
      → IsLonger d (step l r jobs n p w) (step l r jobs m p w)
  more_step zero d m e p w = grows_step m p w
  more_step (suc n) d zero e p w = absurd (omega arith)
  more_step (suc n) d (suc m) e p w =
      let same : m ≡ n + d = omega arith in
      let next : Part S C F J R O A → RunState S O → Outcome S F O A = λ q v. step l r jobs n q v in
      let next' : Part S C F J R O A → RunState S O → Outcome S F O A = λ q v. step l r jobs m q v in
      subst (λ k. IsLonger d (run_to l r jobs next n p w) (run_to l r jobs next' k p w)) (sym same)
      (more_to next next' n d (λ q v. more_step n d m same q v) p w)

  -- more steps only add
  pub more_steps : (n d : ℕ) (p : Part S C F J R O A) (w : RunState S O)
      → IsLonger d (run l r jobs n p w) (run l r jobs (n + d) p w)
  more_steps n d p w =
      more_to (λ q v. step l r jobs n q v) (λ q v. step l r jobs (n + d) q v) n d
      (λ q v. more_step n d (n + d) refl q v) p w

  -- a run that is over is the same with more steps, but that more are left
  pub run_more : (n k d : ℕ) (p : Part S C F J R O A) (w : RunState S O) (e : Finish F A) (m : ℕ) (v : RunState S O)
      → k ≡ n + d → run l r jobs n p w ≡ Over e m v → run l r jobs k p w ≡ Over e (m + d) v
  run_more n k d p w e m v is over =
      ap (λ x. run l r jobs x p w) is
      ∙ subst (λ x. IsLonger d x (run l r jobs (n + d) p w)) over (more_steps n d p w)
