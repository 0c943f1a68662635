-- The answer that the code makes of the run of a woven program is the one that is due.
use Rattle.std.proofs.Common.{◌≡◌, ◌∙◌, ◌++◌, ◌<◌, ◌≤◌, ◌^◌, ℕ, List, [], ap, arith, length, subst}
use Rattle.jl_ast.specs.Tree.{Program}
use Rattle.jl_effects.specs.Running.{state_of as world_of, steps_taken, Over, Spent}
use Rattle.jl_machine.specs.Runs.{ending_of, IsRun}
use Rattle.jl_machine.specs.declared.ending.Run.{Run}
use Rattle.jl_meaning.specs.Mean.{mean, Run as BigStep-to}
use Rattle.jl_meaning.specs.Store.{Store}
use Rattle.jl_op.specs.Chosen.{Kinds}
use Rattle.jl_op.specs.IdMap.{id_map}
use Rattle.jl_op.specs.KindSets.{is_member}
use Rattle.jl_op.specs.Map.{MapRow}
use Rattle.jl_op.specs.Operations.{Operation}
use Rattle.jl_op.specs.declared.kind.OpKind.{OpKind}
use Rattle.jl_op.specs.declared.kind_set.KindSet.{KindSet}
use Rattle.jl_text.specs.declared.span.Span.{Span}
use Rattle.jl_app.specs.Linting.{IsReported, end_line, lint_status, lint_due}
use Rattle.jl_app.specs.WovenRuns.{hooked_run}
use Rattle.jl_app.specs.OwnRuns.{uncaught_line}
use Rattle.jl_app.specs.Reporting.{IsReport, Lines, lines_text}
use Rattle.jl_app.specs.WovenText.{kinds_of}
use Rattle.jl_app.specs.declared.status.Status.{Status}
use Rattle.jl_app.proofs.Executing.{of_these_kinds}

-- hooks tell of no more operations than a run takes steps
few_steps : (n : ℕ) (r : BigStep-to) → steps_taken n r ≤ n
few_steps n (Over e left w) = omega arith
few_steps n (Spent w) = omega arith

pub few_kept : ((kinds : Kinds) (p : Program Span) (n : ℕ)
    → length (world_of (mean kinds p n)).hooks ≤ steps_taken n (mean kinds p n))
    → (kinds : Kinds) (p : Program Span) (n : ℕ) → length (world_of (hooked_run kinds p n)).hooks ≤ n
unfolding hooked_run
few_kept law kinds p n = let kept = law kinds p n in let taken = few_steps n (mean kinds p n) in omega arith

module _ {O : Type 0} (stands_for : O → List Operation → Type 0) (o : O) (r : Run) (set : KindSet) (chosen : List ℕ)
    (same : (kind : OpKind) → is_member set kind ≡ kinds_of chosen kind) (q : Program Span)
    (n steps : ℕ) (taken : n ≡ steps) (is : IsRun stands_for [] n (hooked_run (is_member set) q n) r o) where
  is_hooked : IsRun stands_for [] steps (hooked_run (kinds_of chosen) q steps) r o
  is_hooked =
      subst (λ ran. IsRun stands_for [] steps ran r o) (of_these_kinds set (kinds_of chosen) same q steps)
      (subst (λ k. IsRun stands_for [] k (hooked_run (is_member set) q k) r o) taken is)

  -- the observer was told of what the hooks told of
  pub told : stands_for o (world_of (hooked_run (kinds_of chosen) q steps)).hooks
  told = is_hooked.told

  pub same_bytes : (lines : Lines) (bytes : List ℕ)
      → bytes ≡ r.output ++ (lines_text lines ++ (uncaught_line r.store.heap r.outcome
      ++ end_line r.outcome r.steps r.hooks (length lines)))
      → bytes ≡ (lint_due (hooked_run (kinds_of chosen) q steps) steps lines r.hooks).bytes
  same_bytes lines bytes b =
      let ran = hooked_run (kinds_of chosen) q steps in
      b ∙ ap (λ x. x ++ (lines_text lines ++ (uncaught_line r.store.heap r.outcome
      ++ end_line r.outcome r.steps r.hooks (length lines)))) is_hooked.output
      ∙ ap (λ (s : Store). (world_of ran).output ++ (lines_text lines ++ (uncaught_line s.heap r.outcome
      ++ end_line r.outcome r.steps r.hooks (length lines)))) is_hooked.store
      ∙ ap (λ e. (world_of ran).output ++ (lines_text lines ++ (uncaught_line (world_of ran).store.heap e
      ++ end_line e r.steps r.hooks (length lines)))) is_hooked.outcome
      ∙ ap (λ n. (world_of ran).output ++ (lines_text lines ++ (uncaught_line (world_of ran).store.heap (ending_of ran)
      ++ end_line (ending_of ran) n r.hooks (length lines)))) is_hooked.steps

  -- the report, the status and the bytes
  pub is_linted : (units : List ℕ) (p : Program Span) (rows : List MapRow) (lines : Lines) (answer : Status)
      (bytes : List ℕ) → rows ≡ id_map p
      → ((told : List Operation) → stands_for o told → length told < 2 ^ 64 → IsReport units rows chosen told lines)
      → length (world_of (hooked_run (kinds_of chosen) q steps)).hooks ≤ steps → steps < 2 ^ 64
      → answer ≡ lint_status r.outcome lines
      → bytes ≡ r.output ++ (lines_text lines ++ (uncaught_line r.store.heap r.outcome
      ++ end_line r.outcome r.steps r.hooks (length lines)))
      → (lines : Lines) × (hooks : ℕ)
      × IsReported units p chosen (world_of (hooked_run (kinds_of chosen) q steps)).hooks
      (world_of (hooked_run (kinds_of chosen) q steps)).hooks lines hooks
      × (answer ≡ (lint_due (hooked_run (kinds_of chosen) q steps) steps lines hooks).status)
      × (bytes ≡ (lint_due (hooked_run (kinds_of chosen) q steps) steps lines hooks).bytes)
  is_linted units p rows lines answer bytes mapped report least most st b = (
    lines,
    r.hooks,
    record {
      counted = is_hooked.hooks;
      report = subst (λ (shown : List MapRow).
          IsReport units shown chosen (world_of (hooked_run (kinds_of chosen) q steps)).hooks lines) mapped
          (report (world_of (hooked_run (kinds_of chosen) q steps)).hooks told (omega arith));
    },
    st ∙ ap (λ e. lint_status e lines) is_hooked.outcome,
    same_bytes lines bytes b,
  )
