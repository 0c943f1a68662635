-- A program that runs as it stands: its run, and how its end is told.
use Rattle.std.specs.Prelude.{[], codes, ◌++◌, ◌∷◌, List, ℕ}
use Rattle.std.specs.Fmt.{decimal}
use Rattle.jl_text.specs.Encoding.{bytes_of}
use Rattle.jl_text.specs.declared.span.Span.{Span}
use Rattle.jl_ast.specs.Tree.{Program}
use Rattle.jl_value.specs.Faults.{fault_text}
use Rattle.jl_value.specs.declared.ending.Outcome.{Outcome as Ending}
use Rattle.jl_value.specs.declared.ending.Outcome.TheVariants as ending
use Rattle.jl_heap.specs.Describe.{description_of}
use Rattle.jl_heap.specs.Objects.{Objects}
use Rattle.jl_meaning.specs.Mean.{mean, Run}
use Rattle.jl_op.specs.Chosen.{every_kind}
use Rattle.jl_app.specs.declared.status.Status.{Status}
use Rattle.jl_app.specs.declared.status.Status.TheVariants as status

-- What a program means with so many steps. Its hooks, if it calls any, tell of operations of all kinds. It is a word of
-- its own, since the steps of a contract may be a numeral, of which no run is to be unfolded.
unfoldable pub own_run : Program Span → (steps : ℕ) → Run
own_run p n = mean every_kind p n

-- how it ended, in words
abbrev pub ending_text : Ending → List ℕ
ending_text ending.Normal = codes "normal"
ending_text (ending.Thrown v) = codes "thrown"
ending_text (ending.Fault f) = codes "fault " ++ fault_text f
ending_text ending.Spent = codes "spent"

abbrev pub ending_status : Ending → Status
ending_status ending.Normal = status.Clean
ending_status (ending.Thrown v) = status.Thrown
ending_status (ending.Fault f) = status.Fault
ending_status ending.Spent = status.Spent

-- the line that tells what was thrown and not caught, if anything was
abbrev pub uncaught_line : Objects → Ending → List ℕ
uncaught_line heap (ending.Thrown v) = codes "uncaught " ++ (bytes_of (description_of heap v) ++ 10 ∷ [])
uncaught_line heap end = []

-- the last line
abbrev pub steps_line : Ending → (steps : ℕ) → List ℕ
steps_line end steps =
    codes "jlint: " ++ (ending_text end ++ (codes " steps=" ++ (decimal steps ++ 10 ∷ [])))
