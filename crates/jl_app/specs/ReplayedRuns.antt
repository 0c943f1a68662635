-- `replay` of what `record` answers to a script reports as `lint` does of the script.
use Rattle.std.specs.Prelude.{◌≡◌, ℕ, List}
use Rattle.jl_ast.specs.Tree.{Program}
use Rattle.jl_command.specs.Asked.{record_of_run}
use Rattle.jl_effects.specs.Running.{IsOver, state_of as world_of}
use Rattle.jl_op.specs.IdMap.{id_map}
use Rattle.jl_op.specs.Operations.{Operation}
use Rattle.jl_text.specs.Encoding.{units_of}
use Rattle.jl_text.specs.declared.span.Span.{Span}
use Rattle.jl_app.specs.Accepting.{IsAccepted}
use Rattle.jl_app.specs.Due.{Due}
use Rattle.jl_app.specs.OwnRuns.{own_run}
use Rattle.jl_app.specs.Replaying.{IsReplayed, replay_due}
use Rattle.jl_app.specs.Reporting.{IsReport, Lines}
use Rattle.jl_app.specs.Telling.{IsToldOfWoven}
use Rattle.jl_app.specs.declared.status.Status.TheVariants as status

-- What is due to `replay` on these bytes, by the rules with these numbers, is the report of these operations of the
-- program p, which stands in a source of these units; and that report is due.
pub record ReplaysAsLint (units : List ℕ) (p : Program Span) (operations : List Operation) (chosen bytes : List ℕ)
    : Type 0 where
  pub reported : (due : Due) → IsReplayed chosen bytes due
      → (lines : Lines) × IsReport units (id_map p) chosen operations lines × (due ≡ replay_due operations lines)
  pub is_due : (lines : Lines) → IsReport units (id_map p) chosen operations lines
      → IsReplayed chosen bytes (replay_due operations lines)

-- So it is, whatever the rules, of what is due to `record` on an accepted script, unless that is a refusal, and of the
-- operations of the script's own run, if that is over within the budget. Their report has the lines of `lint`.
abbrev pub ReplayReportsAsLint : Type 0
ReplayReportsAsLint =
    (bytes : List ℕ) (p : Program Span) (budget : ℕ) → IsAccepted bytes p → IsOver (own_run p budget)
    → (due : Due) → IsToldOfWoven (record_of_run budget) (units_of bytes) p budget due
    → (due.status ≡ status.Refused → ⊥) → (chosen : List ℕ)
    → ReplaysAsLint (units_of bytes) p (world_of (own_run p budget)).operations chosen due.bytes
