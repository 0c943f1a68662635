-- What `lint` answers.
use Rattle.std.specs.Prelude.{◌≡◌, ℕ, List, [], ◌∷◌, ◌++◌, Some, codes, length}
use Rattle.std.specs.Fmt.{decimal}
use Rattle.jl_ast.specs.Tree.{Program}
use Rattle.jl_effects.specs.Running.{state_of as world_of, steps_taken}
use Rattle.jl_machine.specs.Runs.{ending_of}
use Rattle.jl_meaning.specs.Mean as mean
use Rattle.jl_op.specs.IdMap.{id_map}
use Rattle.jl_op.specs.Operations.{Operation}
use Rattle.jl_text.specs.declared.span.Span.{Span}
use Rattle.jl_value.specs.declared.ending.Outcome.{Outcome as Ending}
use Rattle.jl_value.specs.declared.ending.Outcome.TheVariants as ending
use Rattle.jl_app.specs.Due.{Due, refused_only}
use Rattle.jl_app.specs.OwnRuns.{ending_text, uncaught_line}
use Rattle.jl_app.specs.ReadBack.{IsReadBack}
use Rattle.jl_app.specs.Reporting.{Lines, IsReport, lines_text}
use Rattle.jl_app.specs.WovenRuns.{hooked_run, woven_budget}
use Rattle.jl_app.specs.WovenText.{kinds_of}
use Rattle.jl_app.specs.declared.status.Status.{Status}
use Rattle.jl_app.specs.declared.status.Status.TheVariants as status

-- the last line of a run with hooks, and with a report
abbrev pub end_line : Ending → (steps hooks reports : ℕ) → List ℕ
end_line end steps hooks reports =
    codes "jlint: " ++ (ending_text end ++ (codes " steps=" ++ (decimal steps
    ++ (codes " hooks=" ++ (decimal hooks ++ (codes " reports=" ++ (decimal reports ++ 10 ∷ [])))))))

-- the status of a run with these report lines
abbrev pub lint_status : Ending → Lines → Status
lint_status ending.Normal [] = status.Clean
lint_status ending.Normal (line ∷ lines) = status.Reports
lint_status (ending.Thrown v) lines = status.Thrown
lint_status (ending.Fault f) lines = status.Fault
lint_status ending.Spent lines = status.Spent

-- what a run printed, the report, what the run threw, and the last line, with so many steps and operations
abbrev pub lint_bytes : mean.Run → Lines → (steps hooks : ℕ) → List ℕ
lint_bytes r lines steps hooks =
    (world_of r).output ++ (lines_text lines ++ (uncaught_line (world_of r).store.heap (ending_of r)
    ++ end_line (ending_of r) steps hooks (length lines)))

-- what is answered to the run of a woven program with so many steps
abbrev pub lint_due : mean.Run → (steps : ℕ) → Lines → (hooks : ℕ) → Due
lint_due r steps lines hooks = record {
  status = lint_status (ending_of r) lines;
  bytes = lint_bytes r lines (steps_taken steps r) hooks;
  told = Some (world_of r).hooks;
}

-- These are the lines of the report, by the rules with these numbers, of operations that the program p performs, which
-- stands in a source of these units; and so many of them were kept.
pub record IsReported (units : List ℕ) (p : Program Span) (chosen : List ℕ) (kept operations : List Operation)
    (lines : Lines) (count : ℕ) : Type 0 where
  pub counted : count ≡ length kept
  pub report : IsReport units (id_map p) chosen operations lines

-- What `lint` answers to a source of these units that is accepted as the program p, with this budget and the rules with
-- these numbers, where the shelf lends this text: that no program is read from it, or what comes of the run of that
-- program.
pub data IsLinted (units : List ℕ) (p : Program Span) (budget : ℕ) (chosen lent : List ℕ) : Due → Type 0 where
  unread : ((q : Program Span) → IsReadBack lent q → ⊥)
      → IsLinted units p budget chosen lent (refused_only (codes "ReadBack"))
  ran : (q : Program Span) (lines : Lines) (hooks : ℕ) → IsReadBack lent q
      → IsReported units p chosen (world_of (hooked_run (kinds_of chosen) q (woven_budget budget))).hooks
      (world_of (hooked_run (kinds_of chosen) q (woven_budget budget))).hooks lines hooks
      → IsLinted units p budget chosen lent
      (lint_due (hooked_run (kinds_of chosen) q (woven_budget budget)) (woven_budget budget) lines hooks)
