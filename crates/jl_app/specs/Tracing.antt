-- How the operations of a run are told, a line each.
use Rattle.std.specs.Prelude.{ℕ, List, [], ◌∷◌, ◌++◌, codes}
use Rattle.std.specs.Fmt.{decimal}
use Rattle.jl_op.specs.Operations.{Operation}
use Rattle.jl_op.specs.Trace.{op_line}
use Rattle.jl_text.specs.Encoding.{bytes_of}
use Rattle.jl_value.specs.declared.ending.Outcome.{Outcome as Ending}
use Rattle.jl_app.specs.OwnRuns.{ending_text}

-- the line of an operation, in UTF-8, and LF
abbrev pub trace_line : Operation → List ℕ
trace_line o = bytes_of (op_line o.0 o.1) ++ 10 ∷ []

abbrev pub trace_lines : List Operation → List ℕ
trace_lines [] = []
trace_lines (o ∷ operations) = trace_line o ++ trace_lines operations

-- the last line of a run with hooks
abbrev pub hooks_line : Ending → (steps hooks : ℕ) → List ℕ
hooks_line end steps hooks =
    codes "jlint: " ++ (ending_text end ++ (codes " steps=" ++ (decimal steps
    ++ (codes " hooks=" ++ (decimal hooks ++ 10 ∷ [])))))
