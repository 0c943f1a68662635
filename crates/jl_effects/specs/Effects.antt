-- What a part of a program does, as a tree of effects (an interaction tree). A node is an effect, and below it stands
-- what is done next, for each answer that there may be.
--
--     End       the part ends, with a result
--     Fail      a fault ends the run
--     Step      a step is taken
--     Look      the store is looked at
--     Change    the store is changed
--     Begin     a job begins, as a call or a turn of a loop; this takes a step
--     Print     a line is printed
--     Perform   the script performs an operation
--     Emit      a hook emits an operation: it tells that the script performs it
--
-- What these are about is left open: S is what a store is, C a change of it, F a fault, J a job, R what a job ends
-- with, and O an operation.
use Rattle.std.specs.Prelude.{ℕ, zero, suc, List}

-- a part of a program that ends with an A
pub data Part (S C F J R O A : Type 0) : Type 0 where
  End : A → Part S C F J R O A
  Fail : F → Part S C F J R O A
  Step : Part S C F J R O A → Part S C F J R O A
  Look : (S → Part S C F J R O A) → Part S C F J R O A
  Change : C → Part S C F J R O A → Part S C F J R O A
  Begin : J → (R → Part S C F J R O A) → Part S C F J R O A
  Print : List ℕ → Part S C F J R O A → Part S C F J R O A
  Perform : O → Part S C F J R O A → Part S C F J R O A
  Emit : O → Part S C F J R O A → Part S C F J R O A

-- one part, and then what is made of its end
abbrev pub and_then : {S C F J R O A B : Type 0} → Part S C F J R O A → (A → Part S C F J R O B)
    → Part S C F J R O B
and_then (End a) k = k a
and_then (Fail f) k = Fail f
and_then (Step p) k = Step (and_then p k)
and_then (Look p) k = Look (λ store. and_then (p store) k)
and_then (Change c p) k = Change c (and_then p k)
and_then (Begin job p) k = Begin job (λ end. and_then (p end) k)
and_then (Print line p) k = Print line (and_then p k)
and_then (Perform o p) k = Perform o (and_then p k)
and_then (Emit o p) k = Emit o (and_then p k)

infixl 1 ◌>>=◌
abbrev pub ◌>>=◌ : {S C F J R O A B : Type 0} → Part S C F J R O A → (A → Part S C F J R O B) → Part S C F J R O B
p >>= k = and_then p k

-- so many steps, and then the part
abbrev pub steps : {S C F J R O A : Type 0} → ℕ → Part S C F J R O A → Part S C F J R O A
steps zero p = p
steps (suc n) p = Step (steps n p)

-- a job, and nothing else
abbrev pub job : {S C F J R O : Type 0} → J → Part S C F J R O R
job j = Begin j End

-- A row: a part that performs no operation and emits none, as what a builtin does. Its jobs are calls, K, and its
-- faults are of a type of their own, E.
abbrev pub Row : (S C E K R A : Type 0) → Type 0
Row S C E K R A = Part S C E K R ⊥ A

-- a row as a part of a program, in which a call is this job, and a fault of the row is this fault
abbrev pub row : {S C E F K J R O A : Type 0} → (call : K → J) → (fault : E → F) → Row S C E K R A
    → Part S C F J R O A
row call fault (End a) = End a
row call fault (Fail e) = Fail (fault e)
row call fault (Step p) = Step (row call fault p)
row call fault (Look p) = Look (λ store. row call fault (p store))
row call fault (Change c p) = Change c (row call fault p)
row call fault (Begin k p) = Begin (call k) (λ end. row call fault (p end))
row call fault (Print line p) = Print line (row call fault p)
row call fault (Perform o p) = absurd o
row call fault (Emit o p) = absurd o
