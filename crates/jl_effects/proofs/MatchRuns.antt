-- Where parts match, their runs follow.
use Rattle.std.proofs.Common.{◌≡◌, ℕ, zero, suc, ◌+◌, List, [], ◌∷◌, ◌++◌, Bool, false, filter, sym, ap, ◌∙◌, arith}
use Rattle.std.specs.Prelude.{if◌then◌else◌}
use Rattle.jl_effects.specs.Effects.{Part, and_then}
use Rattle.jl_effects.specs.Running.{Language, RunState, with_line, trace_with, has_room, everything, keeping}
use Rattle.jl_effects.specs.Running.{Ends, Fails, Over, step, run}
use Rattle.jl_effects.specs.Matching.{plus, Matches, JobsMatch, IsWithin, ends, fails, both, extra, looks, peeks}
use Rattle.jl_effects.specs.Matching.{changes, begins, prints, told, silent, unkept, own, spare}
use Rattle.jl_effects.specs.Following.{Runs, runs, retold, Follows}
use Rattle.jl_effects.proofs.Growth.{runs_go_on}
use Rattle.jl_effects.proofs.Traces.{kept_trace}
use Rattle.jl_effects.proofs.Follow.{within_prefixed, over_at, spare_at, own_at, test_at, same_at, both_at}
use Rattle.jl_effects.proofs.Follow.{extra_at, none_at}
use Rattle.jl_effects.proofs.Match.{matches_more, matches_then}

abbrev at : {S O : Type 0} → S → List ℕ → List O → List O → RunState S O
at s out ops hooks = record { store = s; output = out; operations = ops; hooks = hooks }

-- an operation that is not kept adds nothing to a trace
not_kept : {O : Type 0} (kept : O → Bool) (o : O) (trace : List O) → kept o ≡ false → trace_with kept o trace ≡ trace
not_kept kept o trace is = ap (λ b. if b then trace ++ o ∷ [] else trace) is

module _ {S C F J R O : Type 0} (l : Language S C F) (kept : O → Bool) (IsPair : J → J → Type 0)
    (first second : J → Part S C F J R O R) (jobs : JobsMatch l.apply kept IsPair first second) {A : Type 0} where
  -- n steps of p are followed by steps of q
  abbrev PartsFollow : (c n : ℕ) (p q : Part S C F J R O A) → RunState S O → Type 0
  PartsFollow c n p q v = Follows kept (IsWithin kept) c n (run l everything first n p v) (runs l kept second q v)

  -- the same, where both begin with a step
  abbrev StepsFollow : (c n : ℕ) (p q : Part S C F J R O A) → RunState S O → Type 0
  StepsFollow c n p q v =
      Follows kept (IsWithin kept) c n (step l everything first n p v)
      (λ before b. step l (keeping kept) second b q (retold kept v before))

  -- the second run from a state with these hooks
  abbrev hooked : Part S C F J R O A → S → List ℕ → List O
      → Runs S F O A
  hooked q s out hooks before b = run l (keeping kept) second b q (at s out before hooks)

  follows_to : (n : ℕ)
      → ((c d : ℕ) (s : S) (p q : Part S C F J R O A) → Matches l.apply kept IsPair s (plus 31 c) d p q
      → (out : List ℕ) (ops hooks : List O) → StepsFollow c n p q (at s out ops hooks))
      → {s : S} {c d : ℕ} {p q : Part S C F J R O A} → Matches l.apply kept IsPair s c d p q
      → (out : List ℕ) (ops hooks : List O) → PartsFollow c n p q (at s out ops hooks)
  follows_to n on (ends {s = s} {c = c} {a = a} le) out ops hooks =
      over_at kept (IsWithin kept) c n (at s out ops hooks) (Ends a)
  follows_to n on (fails {s = s} {c = c} {f = f}) out ops hooks =
      over_at kept (IsWithin kept) c n (at s out ops hooks) (Fails f)
  follows_to n on (both {s = s} {c = c} {d = d} {p = p} {q = q} m) out ops hooks =
      on c d s p q m out ops hooks
  follows_to n on (extra {s = s} {c = c} {p = p} {q = q} m) out ops hooks =
      let v = at s out ops hooks in
      extra_at l kept (IsWithin kept) (within_prefixed kept) second v q c n (run l everything first n p v)
      (runs_go_on l everything first n p v) (follows_to n on m out ops hooks)
  follows_to n on (looks m) out ops hooks = follows_to n on m out ops hooks
  follows_to n on (peeks m) out ops hooks = follows_to n on m out ops hooks
  follows_to n on (changes m) out ops hooks = follows_to n on m out ops hooks
  follows_to n on (begins {s = s} {c = c} {d = d} {i = i} {j = j} {p = p} {q = q} pair m) out ops hooks =
      let part : Matches l.apply kept IsPair s (c + 31) (c + 0) (first i) (second j) =
      matches_more l.apply kept IsPair c (jobs i j pair s) in
      let after : (end : R) (t : S) → Matches l.apply kept IsPair t (c + 0) d (p end) (q end) =
      λ end t. spare {c = c} (omega arith) (m end t) in
      on c d s (and_then (first i) p) (and_then (second j) q)
      (spare {c = c + 31} (omega arith) (matches_then l.apply kept IsPair part after)) out ops hooks
  follows_to n on (prints {s = s} {c = c} {line = line} {p = p} {q = q} m) out ops hooks =
      let v = at s out ops hooks in
      test_at kept (IsWithin kept) c n (has_room l line v) _ _
      (runs l kept second q (with_line line v)) (λ before b. Over (Fails l.full) b (retold kept v before))
      (follows_to n on m (out ++ line ++ 10 ∷ []) ops hooks) (over_at kept (IsWithin kept) c n v (Fails l.full))
  follows_to n on (told {s = s} {c = c} {o = o} {p = p} {q = q} m) out ops hooks =
      let v = at s out (ops ++ o ∷ []) hooks in
      same_at kept (IsWithin kept) c n (runs l kept second q v) (hooked q s out (trace_with kept o (filter kept ops)))
      (run l everything first n p v)
      (λ before b. ap (λ trace. hooked q s out trace before b) (sym (kept_trace kept ops o)))
      (follows_to n on m out (ops ++ o ∷ []) hooks)
  follows_to n on (silent {s = s} {c = c} {o = o} {p = p} {q = q} is m) out ops hooks =
      let v = at s out (ops ++ o ∷ []) hooks in
      same_at kept (IsWithin kept) c n (runs l kept second q v) (hooked q s out (filter kept ops))
      (run l everything first n p v)
      (λ before b. ap (λ trace. hooked q s out trace before b)
      (sym (kept_trace kept ops o ∙ not_kept kept o (filter kept ops) is)))
      (follows_to n on m out (ops ++ o ∷ []) hooks)
  follows_to n on (unkept {s = s} {c = c} {o = o} {p = p} {q = q} is m) out ops hooks =
      let v = at s out ops hooks in
      same_at kept (IsWithin kept) c n (runs l kept second q v) (hooked q s out (trace_with kept o (filter kept ops)))
      (run l everything first n p v)
      (λ before b. ap (λ trace. hooked q s out trace before b) (not_kept kept o (filter kept ops) is))
      (follows_to n on m out ops hooks)
  follows_to n on (own {s = s} {c = c} {o = o} {p = p} {q = q} m) out ops hooks =
      let v = at s out ops hooks in
      own_at kept (IsWithin kept) c n o (runs l kept second q v) (run l everything first n p v)
      (follows_to n on m out ops hooks)
  follows_to n on (spare {s = s} {c = c} {c' = c'} {p = p} {q = q} le m) out ops hooks =
      let v = at s out ops hooks in
      spare_at kept (IsWithin kept) c c' n (runs l kept second q v) (run l everything first n p v) le
      (follows_to n on m out ops hooks)

  -- the runs of a part follow those of the part that it matches
  pub follows : (n : ℕ) {s : S} {c d : ℕ} {p q : Part S C F J R O A} → Matches l.apply kept IsPair s c d p q
      → (out : List ℕ) (ops hooks : List O) → PartsFollow c n p q (at s out ops hooks)
  follows zero m =
      follows_to zero (λ c d s p q m out ops hooks.
      none_at l kept (IsWithin kept) (within_prefixed kept) second (at s out ops hooks) q c) m
  follows (suc n) m =
      follows_to (suc n) (λ c d s p q m out ops hooks.
      let v = at s out ops hooks in
      both_at l kept (IsWithin kept) (within_prefixed kept) second v q c n (run l everything first n p v)
      (runs_go_on l everything first n p v) (follows n m out ops hooks)) m
