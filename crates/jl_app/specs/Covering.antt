-- What `cover` answers: the functions that a run never entered, and the conditions that were never true or never false.
use Rattle.std.specs.Prelude.{ℕ, List, [], ◌∷◌, ◌++◌, codes}
use Rattle.std.specs.Fmt.{decimal}
use Rattle.jl_ast.specs.Tree.{Program}
use Rattle.jl_cover.specs.Coverage.{missed_bytes, missed_in, totals_in}
use Rattle.jl_cover.specs.declared.missed.Missed.{Missed}
use Rattle.jl_cover.specs.declared.totals.Totals.{Totals}
use Rattle.jl_effects.specs.Running.{state_of as world_of}
use Rattle.jl_machine.specs.Runs.{ending_of}
use Rattle.jl_meaning.specs.Mean as mean
use Rattle.jl_op.specs.IdMap.{id_map}
use Rattle.jl_op.specs.Operations.{Operation}
use Rattle.jl_text.specs.Places.{line_table}
use Rattle.jl_text.specs.declared.span.Span.{Span}
use Rattle.jl_value.specs.declared.ending.Outcome.{Outcome as Ending}
use Rattle.jl_app.specs.Due.{Due, text_only}
use Rattle.jl_app.specs.OwnRuns.{ending_status, ending_text, uncaught_line}

-- a line for each gap
abbrev pub missed_lines : List Missed → List ℕ
missed_lines [] = []
missed_lines (gap ∷ gaps) = (missed_bytes gap ++ 10 ∷ []) ++ missed_lines gaps

-- how many of the functions were entered, and how many of the conditions were true and false
abbrev pub totals_text : Totals → List ℕ
totals_text totals =
    codes "functions=" ++ (decimal totals.entered ++ (codes " of " ++ (decimal totals.functions
    ++ (codes " conditions=" ++ (decimal totals.decided ++ (codes " of " ++ decimal totals.conditions))))))

-- the last line
abbrev pub cover_line : Ending → (steps : ℕ) → Totals → List ℕ
cover_line end steps totals =
    codes "jlint: " ++ (ending_text end ++ (codes " steps=" ++ (decimal steps ++ (codes " "
    ++ (totals_text totals ++ 10 ∷ [])))))

-- the gaps, what the run r threw, and the last line
abbrev pub cover_bytes : mean.Run → (steps : ℕ) → List Missed → Totals → List ℕ
cover_bytes r steps gaps totals =
    missed_lines gaps ++ (uncaught_line (world_of r).store.heap (ending_of r) ++ cover_line (ending_of r) steps totals)

-- the answer to a run that ended as r after this many steps, with these operations of the program p, which stands in a
-- source of these units
abbrev pub cover_due : (units : List ℕ) → Program Span → mean.Run → List Operation → (steps : ℕ) → Due
cover_due units p r operations steps =
    text_only (ending_status (ending_of r))
    (cover_bytes r steps (missed_in (line_table units) (id_map p) operations)
    (totals_in (id_map p) operations))
