-- A run that follows another, from a moment when both have the same store and output on; and rows over two tables of
-- jobs. The first run records everything, and the second what is kept of what its hooks emit.
use Rattle.std.specs.Prelude.{◌≡◌, ℕ, ◌+◌, ◌*◌, ◌<◌, ◌≤◌, Bool, List, filter}
use Rattle.jl_effects.specs.Effects.{Part, job}
use Rattle.jl_effects.specs.Running.{Language, RunState, Finish, Outcome, Over, Spent, everything, keeping, run}

-- the state of a run whose hooks emitted the kept ones of all operations that the run with this state performed, and
-- that performed operations of its own
abbrev pub retold : {S O : Type 0} → (kept : O → Bool) → RunState S O → (own : List O) → RunState S O
retold kept v own =
    record { store = v.store; output = v.output; operations = own; hooks = filter kept v.operations }

-- what runs come to that performed these operations of their own before, and have b steps
abbrev pub Runs : (S F O A : Type 0) → Type 0
Runs S F O A = (own : List O) → (b : ℕ) → Outcome S F O A

-- the runs of a part from where the other run has come to v
abbrev pub runs : {S C F J R O A : Type 0} → Language S C F → (kept : O → Bool) → (jobs : J → Part S C F J R O R)
    → Part S C F J R O A → RunState S O → Runs S F O A
runs language kept jobs p v own b = run language (keeping kept) jobs b p (retold kept v own)

-- it is over so, after so many of b steps, with the store and output of v, and hooks that told of the operations of v
pub data IsEnd {S F O A : Type 0} (kept : O → Bool) (e : Finish F A) (v : RunState S O) (steps b : ℕ)
    : Outcome S F O A → Type 0 where
  is_end : {own : List O} {left : ℕ} → steps + left ≡ b → IsEnd kept e v steps b (Over e left (retold kept v own))

-- it is spent, with a state that IsPart allows beside v
pub data IsCut {S F O A : Type 0} (IsPart : RunState S O → RunState S O → Type 0) (v : RunState S O)
    : Outcome S F O A → Type 0 where
  is_cut : {w : RunState S O} → IsPart v w → IsCut IsPart v (Spent w)

-- what IsPart is where all is allowed
abbrev pub IsAny : {S O : Type 0} → RunState S O → RunState S O → Type 0
IsAny v w = Unit {0}

-- The first run is over like this, with some of n steps left. So is the second, if it has steps enough; else it is
-- spent. It takes at least as many steps as the first, and at most 32 times as many and `credit`.
pub record EndsLike {S F O A : Type 0} (kept : O → Bool) (IsPart : RunState S O → RunState S O → Type 0)
    (credit n : ℕ) (e : Finish F A) (left : ℕ) (v : RunState S O) (second : Runs S F O A) : Type 0 where
  pub steps : ℕ
  pub takes : left ≤ n
  pub no_fewer : n ≤ steps + left
  pub not_many_more : steps + 32 * left ≤ 32 * n + credit
  pub over : (own : List O) (b : ℕ) → steps ≤ b → IsEnd kept e v steps b (second own b)
  pub short : (own : List O) (b : ℕ) → b < steps → IsCut IsPart v (second own b)

-- The second run follows the first, which comes to this with n steps: where the first is over, the second ends like it;
-- and where the first is spent, so is the second with as many steps or fewer.
abbrev pub Follows : {S F O A : Type 0} → (kept : O → Bool) → (IsPart : RunState S O → RunState S O → Type 0)
    → (credit n : ℕ) → Outcome S F O A → Runs S F O A → Type 0
Follows kept IsPart credit n (Over e left v) second = EndsLike kept IsPart credit n e left v second
Follows {O = O} kept IsPart credit n (Spent v) second =
    (own : List O) (b : ℕ) → b ≤ n → IsCut IsPart v (second own b)

-- The part follows itself, where the second run has another table of jobs.
abbrev pub PartFollows : {S C F J R O A : Type 0} → Language S C F → (kept : O → Bool)
    → (IsPart : RunState S O → RunState S O → Type 0) → (first second : J → Part S C F J R O R)
    → Part S C F J R O A → Type 0
PartFollows {S = S} {O = O} language kept IsPart first second p =
    (v : RunState S O) (n : ℕ)
    → Follows kept IsPart 0 n (run language everything first n p v) (runs language kept second p v)

-- So does each call.
abbrev pub CallsFollow : {S C F K J R O : Type 0} → Language S C F → (kept : O → Bool)
    → (IsPart : RunState S O → RunState S O → Type 0) → (call : K → J)
    → (first second : J → Part S C F J R O R) → Type 0
CallsFollow {K = K} language kept IsPart call first second =
    (k : K) → PartFollows language kept IsPart first second (job (call k))
