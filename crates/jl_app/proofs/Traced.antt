-- The lines of a trace grow by one, and the answer that is made of them is the one that is due.
use Rattle.std.proofs.Common.{◌≡◌, ◌∙◌, ◌++◌, List, [], ◌∷◌, ap, sym, subst, true, ℕ}
use Rattle.std.proofs.Common.{append_assoc, append-nil}
use mathlib.Core.Path.{fun_ext}
use Rattle.jl_ast.specs.Tree.{Program}
use Rattle.jl_effects.specs.Running.{state_of as world_of, steps_taken}
use Rattle.jl_machine.specs.Runs.{ending_of, IsRun}
use Rattle.jl_machine.specs.declared.ending.Run.{Run}
use Rattle.jl_meaning.specs.Mean as mean
use Rattle.jl_meaning.specs.Store.{Store}
use Rattle.jl_op.specs.Chosen.{every_kind}
use Rattle.jl_op.specs.KindSets.{is_member}
use Rattle.jl_op.specs.Operations.{Operation}
use Rattle.jl_op.specs.declared.kind.OpKind.{OpKind}
use Rattle.jl_op.specs.declared.kind_set.KindSet.{KindSet}
use Rattle.jl_simulation.specs.Weaving.{woven_program}
use Rattle.jl_text.specs.declared.span.Span.{Span}
use Rattle.jl_app.specs.Answers.{trace_due}
use Rattle.jl_app.specs.Due.{Due}
use Rattle.jl_app.specs.Telling.{told_run}
use Rattle.jl_app.specs.WovenRuns.{hooked_run, woven_budget}
use Rattle.jl_app.specs.OwnRuns.{ending_status, own_run, uncaught_line}
use Rattle.jl_app.specs.Tracing.{hooks_line, trace_line, trace_lines}
use Rattle.jl_app.specs.declared.status.Status.{Status}
use Rattle.jl_app.proofs.Executing.{of_all_kinds}

pub trace_lines-push : (told : List Operation) (o : Operation)
    → trace_lines (told ++ o ∷ []) ≡ trace_lines told ++ trace_line o
trace_lines-push [] o = append-nil (trace_line o)
trace_lines-push (x ∷ told) o =
    ap (λ text. trace_line x ++ text) (trace_lines-push told o)
    ∙ sym (append_assoc (trace_line x) (trace_lines told) (trace_line o))

module _ {O : Type 0} {stands_for : O → List Operation → Type 0} {o : O} {r : Run} (budget : ℕ) (ran : mean.Run)
    (is : IsRun stands_for [] budget ran r o) (lines : List ℕ) (told : lines ≡ trace_lines (world_of ran).hooks) where
  -- the bytes of the answer
  same_traced : (bytes : List ℕ)
      → bytes ≡ lines ++ (uncaught_line r.store.heap r.outcome ++ hooks_line r.outcome r.steps r.hooks)
      → bytes ≡ (trace_due ran budget).bytes
  same_traced bytes b =
      b ∙ ap (λ x. x ++ (uncaught_line r.store.heap r.outcome ++ hooks_line r.outcome r.steps r.hooks)) told
      ∙ ap (λ (s : Store). trace_lines (world_of ran).hooks ++ (uncaught_line s.heap r.outcome
      ++ hooks_line r.outcome r.steps r.hooks)) is.store
      ∙ ap (λ e. trace_lines (world_of ran).hooks ++ (uncaught_line (world_of ran).store.heap e
      ++ hooks_line e r.steps r.hooks)) is.outcome
      ∙ ap (λ n. trace_lines (world_of ran).hooks ++ (uncaught_line (world_of ran).store.heap (ending_of ran)
      ++ hooks_line (ending_of ran) n r.hooks)) is.steps
      ∙ ap (λ n. trace_lines (world_of ran).hooks ++ (uncaught_line (world_of ran).store.heap (ending_of ran)
      ++ hooks_line (ending_of ran) (steps_taken budget ran) n)) is.hooks

  pub is_traced : (answer : Status) (bytes : List ℕ) → answer ≡ ending_status r.outcome
      → bytes ≡ lines ++ (uncaught_line r.store.heap r.outcome ++ hooks_line r.outcome r.steps r.hooks)
      → (answer ≡ (trace_due ran budget).status) × (bytes ≡ (trace_due ran budget).bytes)
  is_traced answer bytes st b = (st ∙ ap ending_status is.outcome, same_traced bytes b)

-- a run of a program that was told of all kinds
pub all_kinds : {O : Type 0} {stands_for : O → List Operation → Type 0} {o : O} {r : Run} (kinds : KindSet)
    → ((kind : OpKind) → is_member kinds kind ≡ true) → (p : Program Span) (budget : ℕ)
    → IsRun stands_for [] budget (hooked_run (is_member kinds) p budget) r o
    → IsRun stands_for [] budget (own_run p budget) r o
all_kinds {stands_for = stands_for} {o = o} {r = r} kinds all p budget is =
    subst (λ ran. IsRun stands_for [] budget ran r o) (of_all_kinds kinds all p budget) is

-- a program that is woven for a set of all kinds
pub of_all_woven : (set : KindSet) → ((kind : OpKind) → is_member set kind ≡ true) → (p : Program Span)
    → woven_program (is_member set) p ≡ woven_program every_kind p
of_all_woven set all p = ap (λ chosen. woven_program chosen p) (fun_ext {f = is_member set} {g = every_kind} all)

-- an answer to the run of a program is that to the run of the woven script, where they run alike
pub same_traced_run : (q p : Program Span) (steps budget : ℕ) {answer : Status} {bytes : List ℕ}
    → steps ≡ woven_budget budget → own_run q (woven_budget budget) ≡ told_run every_kind p budget
    → (answer ≡ (trace_due (own_run q steps) steps).status) × (bytes ≡ (trace_due (own_run q steps) steps).bytes)
    → (answer ≡ (trace_due (told_run every_kind p budget) (woven_budget budget)).status)
    × (bytes ≡ (trace_due (told_run every_kind p budget) (woven_budget budget)).bytes)
same_traced_run q p steps budget is same answered =
    let run : trace_due (own_run q steps) steps ≡ trace_due (told_run every_kind p budget) (woven_budget budget) =
    ap (λ n. trace_due (own_run q n) n) is ∙ ap (λ r. trace_due r (woven_budget budget)) same in
    (answered.0 ∙ ap (λ (d : Due). d.status) run, answered.1 ∙ ap (λ (d : Due). d.bytes) run)
