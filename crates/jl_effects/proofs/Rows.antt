-- Rows follow where their calls do: one induction for all rows.
use Rattle.std.proofs.Common.{zero, suc, Bool, sym, subst, arith}
use Rattle.jl_effects.specs.Effects.{Part, End, Fail, Step, Look, Change, Begin, Print, Perform, Emit, Row, row, job}
use Rattle.jl_effects.specs.Running.{Language, RunState, with_store, with_line, has_room, everything, keeping}
use Rattle.jl_effects.specs.Running.{Ends, Fails, Over, run, outcome_then}
use Rattle.jl_effects.specs.Following.{runs, retold, Follows, PartFollows, CallsFollow}
use Rattle.jl_effects.proofs.Growth.{runs_go_on}
use Rattle.jl_effects.proofs.Chains.{run-and_then}
use Rattle.jl_effects.proofs.Follow.{IsPrefixed, over_at, spare_at, test_at, same_at, both_at, none_at, then_at}

module _ {S C E F K J R O A : Type 0} (l : Language S C F) (kept : O → Bool)
    (IsPart : RunState S O → RunState S O → Type 0) (prefixed : IsPrefixed kept IsPart) (call : K → J) (fault : E → F)
    (first second : J → Part S C F J R O R) (calls : CallsFollow l kept IsPart call first second) where
  pub row_follows : (p : Row S C E K R A) → PartFollows l kept IsPart first second (row call fault p)
  row_follows (End a) v n = over_at kept IsPart 0 n v (Ends a)
  row_follows (Fail e) v n = over_at kept IsPart 0 n v (Fails (fault e))
  row_follows (Step p) v zero = none_at l kept IsPart prefixed second v (row call fault p) 0
  row_follows (Step p) v (suc n) =
      let q = row call fault p in
      both_at l kept IsPart prefixed second v q 0 n (run l everything first n q v) (runs_go_on l everything first n q v)
      (spare_at kept IsPart 0 31 n (runs l kept second q v) (run l everything first n q v) (omega arith)
      (row_follows p v n))
  row_follows (Look p) v n = row_follows (p v.store) v n
  row_follows (Change c p) v n = row_follows p (with_store (l.apply c v.store) v) n
  row_follows (Begin x p) v n =
      let one : Part S C F J R O R = job (call x) in
      let k : R → Part S C F J R O A = λ end. row call fault (p end) in
      subst (λ r. Follows kept IsPart 0 n r (runs l kept second (Begin (call x) k) v))
      (sym (run-and_then l everything first k n one v))
      (same_at kept IsPart 0 n
      (λ own b. outcome_then (runs l kept second one v own b) (λ a m u. run l (keeping kept) second m (k a) u))
      (runs l kept second (Begin (call x) k) v) _
      (λ own b. run-and_then l (keeping kept) second k b one (retold kept v own))
      (then_at kept IsPart prefixed 0 n (runs l kept second one v)
      (λ a m u. run l everything first m (k a) u) (λ a m u. run l (keeping kept) second m (k a) u)
      (λ a m u. runs_go_on l everything first m (k a) u) (λ a m u. row_follows (p a) u m)
      (run l everything first n one v) (calls x v n)))
  row_follows (Print line p) v n =
      test_at kept IsPart 0 n (has_room l line v) _ _
      (runs l kept second (row call fault p) (with_line line v)) (λ own b. Over (Fails l.full) b (retold kept v own))
      (row_follows p (with_line line v) n) (over_at kept IsPart 0 n v (Fails l.full))
  row_follows (Perform o p) v n = absurd o
  row_follows (Emit o p) v n = absurd o
