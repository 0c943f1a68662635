-- What `record` answers: the text of a stored run.
use Rattle.std.specs.Prelude.{ℕ, ◌<◌, ◌≤◌, List, codes, length}
use Rattle.jl_ast.specs.Tree.{Program}
use Rattle.jl_machine.specs.Runs.{ending_of}
use Rattle.jl_meaning.specs.Mean as mean
use Rattle.jl_op.specs.IdMap.{id_map}
use Rattle.jl_op.specs.Operations.{Operation}
use Rattle.jl_record.specs.Recording.{bytes_of_run, run_of}
use Rattle.jl_record.specs.Records.{IsStored, Stored}
use Rattle.jl_report.specs.Off.{off_by}
use Rattle.jl_text.specs.Places.{line_table}
use Rattle.jl_text.specs.declared.span.Span.{Span}
use Rattle.jl_token.specs.Tokens.{Comments}
use Rattle.jl_token.specs.declared.token.Comment.{Comment}
use Rattle.jl_app.specs.Due.{Due, refused_only, text_only}
use Rattle.jl_app.specs.Forms.{most_record_bytes}
use Rattle.jl_app.specs.OwnRuns.{ending_status}

-- a run with these operations of the program p, which stands in a source of these units with these comments
abbrev pub stored_run : (units : List ℕ) → Program Span → List Comment → List Operation → Stored
stored_run units p comments operations =
    run_of (line_table units) (id_map p) (off_by units comments) operations

-- and its text
abbrev pub record_bytes : (units : List ℕ) → Program Span → List Comment → List Operation → List ℕ
record_bytes units p comments operations = bytes_of_run (stored_run units p comments operations)

-- what `record` answers to a run that ended as r, with these operations: it is a stored run, and this is its text; or
-- the text is too long
pub data IsRecorded (units : List ℕ) (p : Program Span) (r : mean.Run) (operations : List Operation) : Due → Type 0
  where
    recorded : (comments : List Comment) → Comments units comments → IsStored (stored_run units p comments operations)
        → length (record_bytes units p comments operations) ≤ most_record_bytes
        → IsRecorded units p r operations
        (text_only (ending_status (ending_of r)) (record_bytes units p comments operations))
    too_long_record : (comments : List Comment) → Comments units comments
        → most_record_bytes < length (record_bytes units p comments operations)
        → IsRecorded units p r operations (refused_only (codes "RecordTooLong"))
