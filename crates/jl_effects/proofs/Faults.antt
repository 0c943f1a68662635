-- A row adds no faults to its own and those of its calls.
use Rattle.std.proofs.Common.{ℕ, zero, suc, sym, subst}
use Rattle.jl_effects.specs.Effects.{Part, End, Fail, Step, Look, Change, Begin, Print, Perform, Emit, Row, row, job}
use Rattle.jl_effects.specs.Running.{Language, Recorded, RunState, with_store, with_line, has_room, Ends, Fails}
use Rattle.jl_effects.specs.Running.{Outcome, Over, Spent, run, outcome_then}
use Rattle.jl_effects.specs.Keeping.{FailsAllowed}
use Rattle.jl_effects.proofs.Growth.{either_way}
use Rattle.jl_effects.proofs.Chains.{run-and_then}

module _ {S F O A B : Type 0} (IsAllowed : F → Type 0) (k : A → (left : ℕ) → RunState S O → Outcome S F O B)
    (after : (a : A) (left : ℕ) (v : RunState S O) → FailsAllowed IsAllowed (k a left v)) where
  fails_then : (x : Outcome S F O A) → FailsAllowed IsAllowed x → FailsAllowed IsAllowed (outcome_then x k)
  fails_then (Over (Ends a) left v) h = after a left v
  fails_then (Over (Fails f) left v) h = h
  fails_then (Spent v) h = tt

module _ {S C E F K J R O A : Type 0} (l : Language S C F) (r : Recorded O) (jobs : J → Part S C F J R O R)
    (call : K → J) (fault : E → F) (IsAllowed : F → Type 0) (full : IsAllowed l.full)
    (own : (e : E) → IsAllowed (fault e))
    (calls : (c : K) (n : ℕ) (w : RunState S O) → FailsAllowed IsAllowed (run l r jobs n (job (call c)) w)) where
  pub row_fails : (p : Row S C E K R A) (n : ℕ) (w : RunState S O)
      → FailsAllowed IsAllowed (run l r jobs n (row call fault p) w)
  row_fails (End a) n w = tt
  row_fails (Fail e) n w = own e
  row_fails (Step p) zero w = tt
  row_fails (Step p) (suc n) w = row_fails p n w
  row_fails (Look p) n w = row_fails (p w.store) n w
  row_fails (Change c p) n w = row_fails p n (with_store (l.apply c w.store) w)
  row_fails (Begin c p) n w =
      let one : Part S C F J R O R = job (call c) in
      let k : R → Part S C F J R O A = λ end. row call fault (p end) in
      subst (FailsAllowed IsAllowed) (sym (run-and_then l r jobs k n one w))
      (fails_then IsAllowed (λ a left v. run l r jobs left (k a) v) (λ a left v. row_fails (p a) left v)
      (run l r jobs n one w) (calls c n w))
  row_fails (Print line p) n w =
      either_way (FailsAllowed IsAllowed) (has_room l line w) _ _ (row_fails p n (with_line line w)) full
  row_fails (Perform o p) n w = absurd o
  row_fails (Emit o p) n w = absurd o
