-- A run takes nothing back, and more steps change nothing of a run that is over.
use Rattle.std.specs.Prelude.{◌≡◌, ℕ, ◌+◌, ◌≤◌, List, ◌++◌}
use Rattle.jl_effects.specs.Running.{RunState, Outcome, Over, Spent, state_of}

-- a is a prefix of b
abbrev pub IsPrefix : {A : Type 0} → List A → List A → Type 0
IsPrefix {A} a b = (more : List A) × (a ++ more ≡ b)

-- the second state has all that was printed, performed and emitted in the first
pub record GoesOn {S O : Type 0} (v w : RunState S O) : Type 0 where
  pub output : IsPrefix v.output w.output
  pub operations : IsPrefix v.operations w.operations
  pub hooks : IsPrefix v.hooks w.hooks

-- where the run is over, so many steps are left, or fewer
abbrev pub HasLeft : {S F O A : Type 0} → (most : ℕ) → Outcome S F O A → Type 0
HasLeft most (Over e left w) = left ≤ most
HasLeft most (Spent w) = Unit {0}

-- What a run comes to with d more steps: the same, and d more are left, where it was over; and where it was spent, it
-- has gone on.
abbrev pub IsLonger : {S F O A : Type 0} → (d : ℕ) → Outcome S F O A → Outcome S F O A → Type 0
IsLonger d (Over e left w) longer = longer ≡ Over e (left + d) w
IsLonger d (Spent w) longer = GoesOn w (state_of longer)
