-- What the answer of `lint` says of the script's own run.
use Rattle.std.specs.Prelude.{◌≡◌, ℕ, ◌≤◌, ◌*◌, ◌+◌, ◌++◌, ◌⊎◌, List, Some, filter, length}
use Rattle.jl_ast.specs.Tree.{Program}
use Rattle.jl_command.specs.Asked.{Asked, request}
use Rattle.jl_effects.specs.Matching.{Alike, IsWithin}
use Rattle.jl_effects.specs.Running.{IsOver, state_of as world_of, steps_taken}
use Rattle.jl_machine.specs.Runs.{ending_of}
use Rattle.jl_meaning.specs.Mean as mean
use Rattle.jl_op.specs.Chosen.{is_kept}
use Rattle.jl_op.specs.Operations.{Operation}
use Rattle.jl_port.specs.Bytes.{Grows}
use Rattle.jl_text.specs.Encoding.{units_of}
use Rattle.jl_text.specs.declared.span.Span.{Span}
use Rattle.jl_value.specs.declared.ending.Outcome.TheVariants as ending
use Rattle.jl_app.specs.Linting.{IsReported, end_line, lint_bytes, lint_status}
use Rattle.jl_app.specs.WovenRuns.{hooked_run, woven_budget, woven_run}
use Rattle.jl_app.specs.OwnRuns.{own_run}
use Rattle.jl_app.specs.Accepting.{IsAccepted}
use Rattle.jl_app.specs.Due.{Due}
use Rattle.jl_app.specs.Endings.{Call, EndsWith, HasAnswered}
use Rattle.jl_app.specs.ReadBack.{IsReadBack}
use Rattle.jl_app.specs.Reporting.{Lines, lines_text}
use Rattle.jl_app.specs.Scripts.{IsScriptFor, Reports}
use Rattle.jl_app.specs.Telling.{IsToldOf, Tells}
use Rattle.jl_app.specs.WovenText.{kinds_of}
use Rattle.jl_app.specs.declared.status.Status.{Status}
use Rattle.jl_app.specs.declared.status.Status.TheVariants as status

-- those of the operations whose kind one of the rules with these numbers looks at, in their order
abbrev pub kept_of : (chosen : List ℕ) → List Operation → List Operation
kept_of chosen operations = filter (is_kept (kinds_of chosen)) operations

-- The answer is about this run of the script p with n steps, and it was made of this run of the woven script. Both are
-- over, in the same way, and with the same output and store; and the hooks of the woven script told of those operations
-- of the script's own run whose kind one of the rules with these numbers looks at, in order. The script stands in a
-- source of these units. What was written begins with what the run printed; the lines are those of all of the run's
-- operations by these rules; the crowd was told of those that hooks told of, and they are counted; the end and the
-- status are those of the run; and the steps that are told are no fewer than the run's, and not many more.
pub record IsAbout (call : Call) (units : List ℕ) (p : Program Span) (chosen : List ℕ) (n : ℕ) (own woven : mean.Run)
    (answer : Status) : Type 0 where
  pub over : IsOver own
  pub alike : Alike (is_kept (kinds_of chosen)) own woven
  pub lines : Lines
  pub steps : ℕ
  pub count : ℕ
  pub report : IsReported units p chosen (kept_of chosen (world_of own).operations) (world_of own).operations lines
      count
  pub status : answer ≡ lint_status (ending_of own) lines
  pub written : Grows call.written.0 call.written.1 (lint_bytes own lines steps count)
  pub no_fewer : steps_taken n own ≤ steps
  pub not_many_more : steps ≤ 32 * steps_taken n own + 64
  pub told : call.crowd.told (kept_of chosen (world_of own).operations)

-- The steps of the woven script, which are so many, were spent, and the answer is about the beginning of this run of
-- the script p: what the woven script printed are the first bytes that the run printed, and what its hooks told of are
-- the first of the run's operations whose kind one of the rules looks at. The lines are those of these operations, and
-- the crowd was told of them.
pub record IsAboutBeginning (call : Call) (units : List ℕ) (p : Program Span) (chosen : List ℕ) (n : ℕ)
    (own woven : mean.Run) (answer : Status) : Type 0 where
  pub spent : IsOver woven → ⊥
  pub within : IsWithin (is_kept (kinds_of chosen)) (world_of own) (world_of woven)
  pub lines : Lines
  pub count : ℕ
  pub report : IsReported units p chosen (world_of woven).hooks (world_of woven).hooks lines count
  pub status : answer ≡ status.Spent
  pub written : Grows call.written.0 call.written.1
      ((world_of woven).output ++ (lines_text lines ++ end_line ending.Spent n count (length lines)))
  pub told : call.crowd.told (world_of woven).hooks

-- What the answer says of the script's own run: all, where that is over within the budget; and in any case all, or the
-- beginning, of its run with as many steps as the woven script has. It was made of the run of a program that is read
-- from what the shelf lends, and that is the woven script's.
pub record IsAboutScript (call : Call) (units : List ℕ) (p : Program Span) (budget : ℕ) (chosen : List ℕ)
    (answer : Status) : Type 0 where
  pub program : Program Span
  pub read : IsReadBack call.shelf.lent program
  pub ran : hooked_run (kinds_of chosen) program (woven_budget budget)
      ≡ woven_run (kinds_of chosen) p (woven_budget budget)
  pub in_time : IsOver (own_run p budget)
      → IsAbout call units p chosen budget (own_run p budget) (woven_run (kinds_of chosen) p (woven_budget budget))
      answer
  pub in_any_case :
      IsAbout call units p chosen (woven_budget budget) (own_run p (woven_budget budget))
      (woven_run (kinds_of chosen) p (woven_budget budget)) answer
      ⊎ IsAboutBeginning call units p chosen (woven_budget budget) (own_run p (woven_budget budget))
      (woven_run (kinds_of chosen) p (woven_budget budget)) answer

-- What the answer of a command that tells of operations says of the script's own run with n steps, which is over: it is
-- what is answered to that run with its own operations, but for the number of its steps, which are no fewer and not
-- many more.
pub record IsAboutOperations (call : Call) (a : Asked) (units : List ℕ) (p : Program Span) (n : ℕ) (own : mean.Run)
    (answer : Status) : Type 0 where
  pub steps : ℕ
  pub due : Due
  pub tells : IsToldOf a units p own (world_of own).operations steps due
  pub status : answer ≡ due.status
  pub written : Grows call.written.0 call.written.1 due.bytes
  pub no_fewer : steps_taken n own ≤ steps
  pub not_many_more : steps ≤ 32 * steps_taken n own + 64

-- How a call ended, and what its answer says of the own run of an accepted script.
pub record Concludes (call : Call) (answer : Status) : Type 0 where
  pub ends : EndsWith call answer
  -- Where the shelf lends what it was handed, the answer to a script that is to be reported of is about its own run, for
  -- every budget and every choice of rules.
  pub headline : (a : Asked) (script : List ℕ) (p : Program Span) (budget : ℕ) (chosen : List ℕ)
      → request call.words ≡ Some a → Reports a budget chosen → IsScriptFor call.held a script → IsAccepted script p
      → call.shelf.lent ≡ call.shelf.handed → HasAnswered answer
      → IsAboutScript call (units_of script) p budget chosen answer
  -- Where the own run is over within the budget, what is told of operations is told of its own.
  pub operations : (a : Asked) (p : Program Span) (budget : ℕ) → request call.words ≡ Some a → Tells a budget
      → IsAccepted call.held p → HasAnswered answer → IsOver (own_run p budget)
      → IsAboutOperations call a (units_of call.held) p budget (own_run p budget) answer
