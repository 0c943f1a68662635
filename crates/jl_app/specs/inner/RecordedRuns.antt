-- The run that `record` tells of, of an accepted script, is a stored run, if its operations can be stored.
use Rattle.std.specs.Prelude.{ℕ, ◌≤◌, List}
use Rattle.std.specs.List.{AllByRecursion}
use Rattle.jl_ast.specs.Tree.{Program}
use Rattle.jl_effects.specs.Running.{state_of as world_of}
use Rattle.jl_op.specs.Chosen.{every_kind}
use Rattle.jl_op.specs.Operations.{Operation}
use Rattle.jl_record.specs.Records.{IsStored}
use Rattle.jl_record.specs.Storing.{CanBeStored}
use Rattle.jl_text.specs.Encoding.{units_of}
use Rattle.jl_text.specs.declared.span.Span.{Span}
use Rattle.jl_token.specs.declared.token.Comment.{Comment}
use Rattle.jl_app.specs.Accepting.{IsAccepted}
use Rattle.jl_app.specs.Recording.{stored_run}
use Rattle.jl_app.specs.Telling.{told_run}

-- the operations of the run of which `record` tells with this budget
abbrev pub recorded_operations : Program Span → (budget : ℕ) → List Operation
recorded_operations p budget = (world_of (told_run every_kind p budget)).hooks

abbrev pub RecordedRunsAreStored : Type 0
RecordedRunsAreStored =
    (bytes : List ℕ) (p : Program Span) → IsAccepted bytes p → (comments : List Comment) (budget : ℕ)
    → budget ≤ 1000000000 → AllByRecursion (λ o. CanBeStored o.1) (recorded_operations p budget)
    → IsStored (stored_run (units_of bytes) p comments (recorded_operations p budget))
