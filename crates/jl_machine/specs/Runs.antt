-- What a run of the machine comes to.
use Rattle.std.specs.Prelude.{◌≡◌, ◌++◌, ◌-◌, length, List, ℕ}
use Rattle.jl_ast.specs.Tree.{Program}
use Rattle.jl_value.specs.declared.ending.Completion.TheVariants as completion
use Rattle.jl_value.specs.declared.ending.Fault.TheVariants.{Misuse}
use Rattle.jl_value.specs.declared.ending.Outcome.{Outcome as Ending}
use Rattle.jl_value.specs.declared.ending.Outcome.TheVariants as ending
use Rattle.jl_op.specs.Chosen.{Kinds}
use Rattle.jl_op.specs.Operations.{Operation}
use Rattle.jl_effects.specs.Running.{state_of, steps_taken, Ends, Fails, Over, Spent}
use Rattle.jl_meaning.specs.Mean as mean
use Rattle.jl_quiet.specs.QuietMean.{quiet_mean}
use Rattle.jl_machine.specs.declared.ending.Run.{Run}

-- What a program means with so many steps, as it looks from its hooks. It is a word of its own, since the steps of a
-- contract may be a numeral, of which no run is to be unfolded.
unfoldable pub hooked_mean : {S : Type 0} → Kinds → Program S → (steps : ℕ) → mean.Run
hooked_mean chosen p n = quiet_mean chosen p n

-- how a run ended; a program ends normally or by what it throws
abbrev pub ending_of : mean.Run → Ending
ending_of (Over (Ends completion.Normal) left w) = ending.Normal
ending_of (Over (Ends (completion.Throw v)) left w) = ending.Thrown v
ending_of (Over (Ends _) left w) = ending.Fault Misuse
ending_of (Over (Fails f) left w) = ending.Fault f
ending_of (Spent w) = ending.Spent

-- how many steps a run took that ended so, of which so many are left
abbrev pub steps_of : Ending → (budget left : ℕ) → ℕ
steps_of ending.Spent budget left = budget
steps_of end budget left = budget - left

-- What was answered is what the run came to that began with so many steps, and the observer, who was told of those from
-- before, was told of what its hooks emitted, of which there are as many as was answered.
pub record IsRun {O : Type 0} (stands_for : O → List Operation → Type 0) (before : List Operation) (budget : ℕ)
    (r : mean.Run) (answer : Run) (observer : O) : Type 0 where
  pub outcome : answer.outcome ≡ ending_of r
  pub output : answer.output ≡ (state_of r).output
  pub store : answer.store ≡ (state_of r).store
  pub steps : answer.steps ≡ steps_taken budget r
  pub hooks : answer.hooks ≡ length (state_of r).hooks
  pub told : stands_for observer (before ++ (state_of r).hooks)
