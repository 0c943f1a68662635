-- The commands that tell of the operations of a run: `record`, `objects` and `cover`.
use Rattle.std.specs.Prelude.{◌≡◌, ℕ, List}
use Rattle.jl_ast.specs.Tree.{Program}
use Rattle.jl_command.specs.Asked.{Asked, cover, objects, record_of_run}
use Rattle.jl_cover.specs.Coverage.{is_covered}
use Rattle.jl_effects.specs.Running.{state_of as world_of, steps_taken}
use Rattle.jl_meaning.specs.Mean as mean
use Rattle.jl_op.specs.Chosen.{every_kind, Kinds}
use Rattle.jl_op.specs.Operations.{Operation}
use Rattle.jl_profile.specs.Births.{is_profiled}
use Rattle.jl_text.specs.declared.span.Span.{Span}
use Rattle.jl_app.specs.Covering.{cover_due}
use Rattle.jl_app.specs.Due.{Due}
use Rattle.jl_app.specs.Profiling.{objects_due}
use Rattle.jl_app.specs.Recording.{IsRecorded}
use Rattle.jl_app.specs.WovenRuns.{woven_budget, woven_run}

-- the command tells of a run with this budget
pub data Tells : Asked → (budget : ℕ) → Type 0 where
  records : (budget : ℕ) → Tells (record_of_run budget) budget
  profiles : (budget : ℕ) → Tells (objects budget) budget
  covers : (budget : ℕ) → Tells (cover budget) budget

-- the kinds of operations that it looks at, for which the script is woven
abbrev pub kinds_told : Asked → Kinds
kinds_told (objects budget) = is_profiled
kinds_told (cover budget) = is_covered
kinds_told _ = every_kind

-- what it answers to a run that ended as r after this many steps, with these operations of the program p, which stands
-- in a source of these units
abbrev pub IsToldOf : Asked → (units : List ℕ) → Program Span → mean.Run → List Operation → (steps : ℕ) → Due → Type 0
IsToldOf (record_of_run budget) units p r operations steps due = IsRecorded units p r operations due
IsToldOf (objects budget) units p r operations steps due = due ≡ objects_due units p r operations steps
IsToldOf (cover budget) units p r operations steps due = due ≡ cover_due units p r operations steps
IsToldOf _ units p r operations steps due = ⊥

-- the run of the script that is woven for these kinds, with this budget of the script
abbrev pub told_run : Kinds → Program Span → (budget : ℕ) → mean.Run
told_run kinds p budget = woven_run kinds p (woven_budget budget)

-- what it answers to the run of the woven script, of whose operations the hooks tell
abbrev pub IsToldOfWoven : Asked → (units : List ℕ) → Program Span → (budget : ℕ) → Due → Type 0
IsToldOfWoven a units p budget due =
    let r = told_run (kinds_told a) p budget in
    IsToldOf a units p r (world_of r).hooks (steps_taken (woven_budget budget) r) due
