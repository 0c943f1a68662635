-- What runs keep: the stores that they come to, and the faults that end them.
use Rattle.std.specs.Prelude.{◌≡◌}
use Rattle.jl_effects.specs.Running.{Outcome, Over, Spent, Ends, Fails}

-- one of those that a T names
abbrev pub IsOneOf : {T X : Type 0} → (named : T → X) → X → Type 0
IsOneOf {T} named x = (t : T) × (named t ≡ x)

-- if a fault has ended the run, it is allowed
abbrev pub FailsAllowed : {S F O A : Type 0} → (IsAllowed : F → Type 0) → Outcome S F O A → Type 0
FailsAllowed IsAllowed (Over (Ends a) left w) = Unit {0}
FailsAllowed IsAllowed (Over (Fails f) left w) = IsAllowed f
FailsAllowed IsAllowed (Spent w) = Unit {0}
