-- What `objects` answers: where a run makes objects, and how many of these it never uses.
use Rattle.std.specs.Prelude.{ℕ, List, [], ◌∷◌, ◌++◌, codes}
use Rattle.std.specs.Fmt.{decimal}
use Rattle.jl_ast.specs.Tree.{Program}
use Rattle.jl_effects.specs.Running.{state_of as world_of}
use Rattle.jl_machine.specs.Runs.{ending_of}
use Rattle.jl_meaning.specs.Mean as mean
use Rattle.jl_op.specs.IdMap.{id_map}
use Rattle.jl_op.specs.Operations.{Operation}
use Rattle.jl_profile.specs.Births.{all_made, all_unused, births_bytes, births_in}
use Rattle.jl_profile.specs.declared.births.Births.{Births}
use Rattle.jl_text.specs.Places.{line_table}
use Rattle.jl_text.specs.declared.span.Span.{Span}
use Rattle.jl_value.specs.declared.ending.Outcome.{Outcome as Ending}
use Rattle.jl_app.specs.Due.{Due, text_only}
use Rattle.jl_app.specs.OwnRuns.{ending_status, ending_text, uncaught_line}

-- a line for each row of the profile
abbrev pub births_lines : List Births → List ℕ
births_lines [] = []
births_lines (row ∷ rows) = (births_bytes row ++ 10 ∷ []) ++ births_lines rows

-- the last line, with the sums of the rows
abbrev pub objects_line : Ending → (steps : ℕ) → List Births → List ℕ
objects_line end steps rows =
    codes "jlint: " ++ (ending_text end ++ (codes " steps=" ++ (decimal steps ++ (codes " objects="
    ++ (decimal (all_made rows) ++ (codes " unused=" ++ (decimal (all_unused rows) ++ 10 ∷ [])))))))

-- the profile, what the run r threw, and the last line
abbrev pub objects_bytes : mean.Run → (steps : ℕ) → List Births → List ℕ
objects_bytes r steps rows =
    births_lines rows ++ (uncaught_line (world_of r).store.heap (ending_of r) ++ objects_line (ending_of r) steps rows)

-- the answer to a run that ended as r after this many steps, with these operations of the program p, which stands in a
-- source of these units
abbrev pub objects_due : (units : List ℕ) → Program Span → mean.Run → List Operation → (steps : ℕ) → Due
objects_due units p r operations steps =
    text_only (ending_status (ending_of r))
    (objects_bytes r steps (births_in (line_table units) (id_map p) operations))
