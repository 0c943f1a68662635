-- The loops of clause 15: each turn takes a step when it begins. What a loop has made so far is its argument, and it
-- ends in the next turn.
use Rattle.std.specs.Prelude.{[], suc, zero, ◌+◌, ◌∷◌, List, None, Option, Some, ℕ}
use Rattle.jl_effects.specs.Effects.{Step}
use Rattle.jl_meaning.specs.Parts.{give, ◌>>=◌, Algorithm}

-- each of a list
abbrev pub each : {A : Type 0} → (A → Algorithm (Unit {0})) → List A → Algorithm (Unit {0})
each f [] = give tt
each f (a ∷ l) = Step do
  _ ← f a
  each f l

-- so many turns from an index up, each with what the turns before it have made
abbrev pub upward : {A : Type 0} → (turn : ℕ → A → Algorithm A) → (count k : ℕ) → A → Algorithm A
upward turn zero k a = give a
upward turn (suc count) k a = Step do
  b ← turn k a
  upward turn count (k + 1) b

-- so many turns down to 0
abbrev pub downward : {A : Type 0} → (turn : ℕ → A → Algorithm A) → (count : ℕ) → A → Algorithm A
downward turn zero a = give a
downward turn (suc k) a = Step do
  b ← turn k a
  downward turn k b

-- what is found, or else what is found next
abbrev pub or_next : {A : Type 0} → Algorithm (Option A) → Option A → Algorithm (Option A)
or_next next None = next
or_next next (Some a) = give (Some a)

-- turns up until one finds something
abbrev pub first_upward : {A : Type 0} → (turn : ℕ → Algorithm (Option A)) → (count k : ℕ) → Algorithm (Option A)
first_upward turn zero k = give None
first_upward turn (suc count) k = Step do
  found ← turn k
  or_next (first_upward turn count (k + 1)) found

-- turns down until one finds something
abbrev pub first_downward : {A : Type 0} → (turn : ℕ → Algorithm (Option A)) → (count : ℕ) → Algorithm (Option A)
first_downward turn zero = give None
first_downward turn (suc k) = Step do
  found ← turn k
  or_next (first_downward turn k) found
