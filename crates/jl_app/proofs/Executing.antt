-- The answer to a program that ran is the one that is due.
use Rattle.std.proofs.Common.{◌≡◌, ◌∙◌, ◌++◌, List, ap, subst, true, ℕ}
use mathlib.Core.Path.{fun_ext}
use Rattle.jl_text.specs.declared.span.Span.{Span}
use Rattle.jl_ast.specs.Tree.{Program}
use Rattle.jl_op.specs.Chosen.{every_kind, Kinds}
use Rattle.jl_op.specs.KindSets.{is_member}
use Rattle.jl_op.specs.Operations.{Operation}
use Rattle.jl_op.specs.declared.kind.OpKind.{OpKind}
use Rattle.jl_op.specs.declared.kind_set.KindSet.{KindSet}
use Rattle.jl_effects.specs.Running.{state_of as world_of}
use Rattle.jl_meaning.specs.Mean as mean
use Rattle.jl_machine.specs.Runs.{ending_of, IsRun}
use Rattle.jl_machine.specs.declared.ending.Run.{Run}
use Rattle.jl_app.specs.Answers.{execute_due}
use Rattle.jl_app.specs.WovenRuns.{hooked_run}
use Rattle.jl_app.specs.OwnRuns.{ending_status, own_run, steps_line, uncaught_line}
use Rattle.jl_app.specs.declared.status.Status.{Status}

-- the run that records all kinds is the run of the program
pub of_all_kinds : (kinds : KindSet) → ((kind : OpKind) → is_member kinds kind ≡ true) → (p : Program Span) (n : ℕ)
    → hooked_run (is_member kinds) p n ≡ own_run p n
unfolding hooked_run own_run
of_all_kinds kinds all p n =
    ap (λ chosen. mean.mean chosen p n) (fun_ext {f = is_member kinds} {g = every_kind} all)

-- and that which records the kinds of a set that passes the same kinds
pub of_these_kinds : (set : KindSet) (kinds : Kinds) → ((kind : OpKind) → is_member set kind ≡ kinds kind)
    → (p : Program Span) (n : ℕ) → hooked_run (is_member set) p n ≡ hooked_run kinds p n
of_these_kinds set kinds same p n = ap (λ chosen. hooked_run chosen p n) (fun_ext same)

-- the status and the bytes, of what was answered
is_executed : {O : Type 0} {stands_for : O → List Operation → Type 0} {before : List Operation} {o : O} {r : Run}
    (budget : ℕ) (ran : mean.Run) (answer : Status) (bytes : List ℕ) → IsRun stands_for before budget ran r o
    → answer ≡ ending_status r.outcome
    → bytes ≡ r.output ++ (uncaught_line r.store.heap r.outcome ++ steps_line r.outcome r.steps)
    → (answer ≡ (execute_due ran budget).status) × (bytes ≡ (execute_due ran budget).bytes)
is_executed {r = r} budget ran answer bytes is st b = (
  st ∙ ap ending_status is.outcome,
  b ∙ ap (λ x. x ++ (uncaught_line r.store.heap r.outcome ++ steps_line r.outcome r.steps)) is.output
      ∙ ap (λ x. (world_of ran).output ++ (uncaught_line x.heap r.outcome ++ steps_line r.outcome r.steps)) is.store
      ∙ ap (λ x. (world_of ran).output ++ (uncaught_line (world_of ran).store.heap x ++ steps_line x r.steps))
      is.outcome
      ∙ ap (λ x. (world_of ran).output ++ (uncaught_line (world_of ran).store.heap (ending_of ran)
      ++ steps_line (ending_of ran) x)) is.steps,
)

-- the same of the run of a program that was told of all kinds
pub all_executed : {O : Type 0} {stands_for : O → List Operation → Type 0} {before : List Operation} {o : O} {r : Run}
    (kinds : KindSet) → ((kind : OpKind) → is_member kinds kind ≡ true) → (p : Program Span) (budget : ℕ)
    (answer : Status) (bytes : List ℕ)
    → IsRun stands_for before budget (hooked_run (is_member kinds) p budget) r o
    → answer ≡ ending_status r.outcome
    → bytes ≡ r.output ++ (uncaught_line r.store.heap r.outcome ++ steps_line r.outcome r.steps)
    → (answer ≡ (execute_due (own_run p budget) budget).status)
    × (bytes ≡ (execute_due (own_run p budget) budget).bytes)
all_executed {stands_for = stands_for} {before = before} {o = o} {r = r} kinds all p budget answer bytes is st b =
    is_executed budget (own_run p budget) answer bytes
    (subst (λ ran. IsRun stands_for before budget ran r o) (of_all_kinds kinds all p budget) is) st b
