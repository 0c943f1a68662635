-- That the fault Misuse ends no run that a command other than `exec` answers of.
use Rattle.std.specs.Prelude.{◌≡◌, ℕ, List}
use Rattle.jl_ast.specs.Tree.{Program}
use Rattle.jl_command.specs.Asked.{Asked, cover, lint, objects, record_of_run, run, soak, trace}
use Rattle.jl_cover.specs.Coverage.{is_covered}
use Rattle.jl_machine.specs.Runs.{ending_of}
use Rattle.jl_meaning.specs.Mean.{Run}
use Rattle.jl_op.specs.Chosen.{every_kind}
use Rattle.jl_profile.specs.Births.{is_profiled}
use Rattle.jl_text.specs.declared.span.Span.{Span}
use Rattle.jl_value.specs.declared.ending.Fault.TheVariants.{Misuse}
use Rattle.jl_value.specs.declared.ending.Outcome.TheVariants as ending
use Rattle.jl_app.specs.Accepting.{IsAccepted}
use Rattle.jl_app.specs.WovenRuns.{hooked_run, woven_budget}
use Rattle.jl_app.specs.OwnRuns.{own_run}
use Rattle.jl_app.specs.ReadBack.{IsReadBack}
use Rattle.jl_app.specs.Telling.{told_run}
use Rattle.jl_app.specs.WovenText.{kinds_of, woven_text}

-- the run is not told to have ended by the fault Misuse
abbrev pub EndsWithoutMisuse : Run → Type 0
EndsWithoutMisuse r = ending_of r ≡ ending.Fault Misuse → ⊥

-- the program that is read from the text of the woven script p is not ended by it
abbrev pub ReportsWithoutMisuse : (budget : ℕ) → (chosen : List ℕ) → Program Span → Type 0
ReportsWithoutMisuse budget chosen p =
    (q : Program Span) → IsReadBack (woven_text (kinds_of chosen) p) q
    → EndsWithoutMisuse (hooked_run (kinds_of chosen) q (woven_budget budget))

-- What is run for a command and the script p is not ended by it: the program that is read from the text that `lint` and
-- `soak` hand to the shelf, the script for `run`, and the woven script for `trace`, `record`, `objects` and `cover`.
abbrev pub RunsWithoutMisuse : Asked → Program Span → Type 0
RunsWithoutMisuse (lint budget chosen) p = ReportsWithoutMisuse budget chosen p
RunsWithoutMisuse (soak number budget chosen) p = ReportsWithoutMisuse budget chosen p
RunsWithoutMisuse (run budget) p = EndsWithoutMisuse (own_run p budget)
RunsWithoutMisuse (trace budget) p = EndsWithoutMisuse (told_run every_kind p budget)
RunsWithoutMisuse (record_of_run budget) p = EndsWithoutMisuse (told_run every_kind p budget)
RunsWithoutMisuse (objects budget) p = EndsWithoutMisuse (told_run is_profiled p budget)
RunsWithoutMisuse (cover budget) p = EndsWithoutMisuse (told_run is_covered p budget)
RunsWithoutMisuse _ p = Unit {0}

-- so it is of every accepted script
abbrev pub AcceptedScriptsRunWithoutMisuse : Type 0
AcceptedScriptsRunWithoutMisuse =
    (a : Asked) (bytes : List ℕ) (p : Program Span) → IsAccepted bytes p → RunsWithoutMisuse a p
