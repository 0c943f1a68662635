-- A simulation relation between parts: the second tells by hooks what the first performs; and what that means for their
-- runs. Of all operations those are meant that pass the test `kept`.
use Rattle.std.specs.Prelude.{◌≡◌, ℕ, zero, suc, ◌+◌, ◌*◌, ◌≤◌, Bool, false, List, filter}
use Rattle.jl_effects.specs.Effects.{Part, End, Fail, Step, Look, Change, Begin, Print, Perform, Emit}
use Rattle.jl_effects.specs.Running.{RunState, Outcome, Over, Spent, IsOver, state_of, steps_taken}
use Rattle.jl_effects.specs.Growing.{IsPrefix}

-- so many more
abbrev pub plus : ℕ → ℕ → ℕ
plus zero n = n
plus (suc k) n = suc (plus k n)

-- From the store s on, the second part has the effects of the first, but that it emits the kept operations that the
-- first performs, that it may perform operations of its own, and that it may take more steps. Each step that both take
-- is worth 31 more of the second alone; it may take `credit` of these before any of them, and at the end `rest` are not
-- taken. `apply` says what a change makes of a store, and IsPair which jobs match.
pub data Matches {S C F J R O A : Type 0} (apply : C → S → S) (kept : O → Bool) (IsPair : J → J → Type 0)
    : S → (credit rest : ℕ) → Part S C F J R O A → Part S C F J R O A → Type 0 where
  -- both end, with the same
  ends : {s : S} {c d : ℕ} {a : A}
      → d ≤ c → Matches apply kept IsPair s c d (End a) (End a)
  fails : {s : S} {c d : ℕ} {f : F}
      → Matches apply kept IsPair s c d (Fail f) (Fail f)
  -- both take a step
  both : {s : S} {c d : ℕ} {p q : Part S C F J R O A}
      → Matches apply kept IsPair s (plus 31 c) d p q → Matches apply kept IsPair s c d (Step p) (Step q)
  -- the second takes a step
  extra : {s : S} {c d : ℕ} {p q : Part S C F J R O A}
      → Matches apply kept IsPair s c d p q → Matches apply kept IsPair s (suc c) d p (Step q)
  -- the first looks at the store
  looks : {s : S} {c d : ℕ} {p : S → Part S C F J R O A} {q : Part S C F J R O A}
      → Matches apply kept IsPair s c d (p s) q → Matches apply kept IsPair s c d (Look p) q
  -- the second looks at the store
  peeks : {s : S} {c d : ℕ} {p : Part S C F J R O A} {q : S → Part S C F J R O A}
      → Matches apply kept IsPair s c d p (q s) → Matches apply kept IsPair s c d p (Look q)
  -- both change the store in the same way
  changes : {s : S} {c d : ℕ} {change : C} {p q : Part S C F J R O A}
      → Matches apply kept IsPair (apply change s) c d p q
      → Matches apply kept IsPair s c d (Change change p) (Change change q)
  -- both begin a job; what these end with, and the store that they leave, is the same for both
  begins : {s : S} {c d : ℕ} {i j : J} {p q : R → Part S C F J R O A}
      → IsPair i j → ((end : R) (t : S) → Matches apply kept IsPair t c d (p end) (q end))
      → Matches apply kept IsPair s c d (Begin i p) (Begin j q)
  prints : {s : S} {c d : ℕ} {line : List ℕ} {p q : Part S C F J R O A}
      → Matches apply kept IsPair s c d p q → Matches apply kept IsPair s c d (Print line p) (Print line q)
  -- the first performs an operation, and the second emits it, be it kept or not
  told : {s : S} {c d : ℕ} {o : O} {p q : Part S C F J R O A}
      → Matches apply kept IsPair s c d p q → Matches apply kept IsPair s c d (Perform o p) (Emit o q)
  -- the first performs an operation that is not kept, and the second is silent
  silent : {s : S} {c d : ℕ} {o : O} {p q : Part S C F J R O A}
      → kept o ≡ false → Matches apply kept IsPair s c d p q → Matches apply kept IsPair s c d (Perform o p) q
  -- the second emits an operation that is not kept
  unkept : {s : S} {c d : ℕ} {o : O} {p q : Part S C F J R O A}
      → kept o ≡ false → Matches apply kept IsPair s c d p q → Matches apply kept IsPair s c d p (Emit o q)
  -- the second performs an operation of its own
  own : {s : S} {c d : ℕ} {o : O} {p q : Part S C F J R O A}
      → Matches apply kept IsPair s c d p q → Matches apply kept IsPair s c d p (Perform o q)
  -- more steps may be taken than are
  spare : {s : S} {c c' d : ℕ} {p q : Part S C F J R O A}
      → c ≤ c' → Matches apply kept IsPair s c d p q → Matches apply kept IsPair s c' d p q

-- Jobs that match have parts that match, in which what the step of beginning them is worth may be taken.
abbrev pub JobsMatch : {S C F J R O : Type 0} → (apply : C → S → S) → (kept : O → Bool) → (IsPair : J → J → Type 0)
    → (first second : J → Part S C F J R O R) → Type 0
JobsMatch {S = S} {J = J} apply kept IsPair first second =
    (i j : J) → IsPair i j → (s : S) → Matches apply kept IsPair s 31 0 (first i) (second j)

-- of the pairs of jobs that a T names, these two are one
abbrev pub ArePaired : {T J : Type 0} → (first second : T → J) → J → J → Type 0
ArePaired {T = T} first second i j = (t : T) × (first t ≡ i) × (second t ≡ j)

-- the second state has the store and the output of the first, and its hooks emitted the kept operations of the first
pub record SameSeen {S O : Type 0} (kept : O → Bool) (v w : RunState S O) : Type 0 where
  pub store : w.store ≡ v.store
  pub output : w.output ≡ v.output
  pub hooks : w.hooks ≡ filter kept v.operations

-- both runs are over, in the same way
abbrev pub Alike : {S F O A : Type 0} → (kept : O → Bool) → Outcome S F O A → Outcome S F O A → Type 0
Alike kept (Over e m v) (Over f n w) = (f ≡ e) × SameSeen kept v w
Alike kept (Over e m v) (Spent w) = ⊥
Alike kept (Spent v) r = ⊥

-- the second state has no more than the first
pub record IsWithin {S O : Type 0} (kept : O → Bool) (v w : RunState S O) : Type 0 where
  pub output : IsPrefix w.output v.output
  pub hooks : IsPrefix w.hooks (filter kept v.operations)

-- the steps that suffice for the second, where the first has so many
abbrev pub step_bound : ℕ → ℕ
step_bound n = 32 * n + 64

-- The second simulates the first, where these say what two programs come to with so many steps.
pub record Simulates {S F O A : Type 0} (kept : O → Bool) (first second : ℕ → Outcome S F O A) : Type 0 where
  -- where the first is over within n steps, the second is within its bound, and in the same way
  pub follows : (n : ℕ) → IsOver (first n) → Alike kept (first n) (second (step_bound n))
  -- where the second is over within m steps, so is the first, and in the same way
  pub leads : (m : ℕ) → IsOver (second m) → Alike kept (first m) (second m)
  pub no_fewer : (m : ℕ) → IsOver (second m) → steps_taken m (first m) ≤ steps_taken m (second m)
  pub not_many_more : (m : ℕ) → IsOver (second m) → steps_taken m (second m) ≤ step_bound (steps_taken m (first m))
  -- what the second has done when its steps are spent, the first does with as many
  pub within : (m : ℕ) (w : RunState S O) → second m ≡ Spent w → IsWithin kept (state_of (first m)) w
