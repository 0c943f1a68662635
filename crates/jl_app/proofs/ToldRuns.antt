-- The answer that the code makes of the operations of a woven script's run is the one that is due.
use Rattle.std.proofs.Common.{◌≡◌, ◌∙◌, ◌++◌, ℕ, List, [], ap, subst}
use mathlib.Core.Path.{fun_ext}
use Rattle.jl_ast.specs.Spans.{without_spans}
use Rattle.jl_ast.specs.Tree.{Program}
use Rattle.jl_cover.specs.declared.missed.Missed.{Missed}
use Rattle.jl_cover.specs.declared.totals.Totals.{Totals}
use Rattle.jl_effects.specs.Running.{state_of as world_of, steps_taken}
use Rattle.jl_machine.specs.Runs.{ending_of, IsRun}
use Rattle.jl_machine.specs.declared.ending.Run.{Run}
use Rattle.jl_meaning.specs.Mean as mean
use Rattle.jl_meaning.specs.Store.{Store}
use Rattle.jl_op.specs.Chosen.{Kinds}
use Rattle.jl_op.specs.IdMap.{id_map}
use Rattle.jl_op.specs.KindSets.{is_member}
use Rattle.jl_op.specs.Map.{MapRow}
use Rattle.jl_op.specs.Operations.{Operation}
use Rattle.jl_op.specs.declared.kind.OpKind.{OpKind}
use Rattle.jl_op.specs.declared.kind_set.KindSet.{KindSet}
use Rattle.jl_profile.specs.declared.births.Births.{Births}
use Rattle.jl_record.specs.Recording.{bytes_of_run, run_of}
use Rattle.jl_report.specs.Off.{Pair, off_by}
use Rattle.jl_simulation.specs.Weaving.{woven_program}
use Rattle.jl_text.specs.Places.{LineTable, line_table}
use Rattle.jl_text.specs.declared.span.Span.{Span}
use Rattle.jl_token.specs.declared.token.Comment.{Comment}
use Rattle.jl_app.specs.Covering.{cover_bytes, cover_line, missed_lines}
use Rattle.jl_app.specs.OwnRuns.{uncaught_line}
use Rattle.jl_app.specs.Profiling.{births_lines, objects_bytes, objects_line}
use Rattle.jl_app.specs.Recording.{record_bytes}
use Rattle.jl_app.specs.Telling.{told_run}
use Rattle.jl_app.specs.WovenRuns.{hooked_run, woven_budget}
use Rattle.jl_app.proofs.OwnRun.{same_run}

-- the run of a program that is read from the woven script's text, or is it but for its places
pub is_told_run : {O : Type 0} (stands_for : O → List Operation → Type 0) (o : O) (r : Run) (kinds : Kinds)
    (p q : Program Span) (n budget : ℕ) → n ≡ woven_budget budget → without_spans q ≡ woven_program kinds p
    → IsRun stands_for [] n (hooked_run kinds q n) r o
    → IsRun stands_for [] (woven_budget budget) (told_run kinds p budget) r o
is_told_run stands_for o r kinds p q n budget taken same is =
    subst (λ (ran : mean.Run). IsRun stands_for [] (woven_budget budget) ran r o)
    (same_run kinds p q (woven_budget budget) same)
    (subst (λ k. IsRun stands_for [] k (hooked_run kinds q k) r o) taken is)

-- the same for a set that has these kinds
pub of_told_kinds : {O : Type 0} (stands_for : O → List Operation → Type 0) (o : O) (r : Run) (set : KindSet)
    (kinds : Kinds) (p : Program Span) (budget : ℕ) → ((kind : OpKind) → is_member set kind ≡ kinds kind)
    → IsRun stands_for [] (woven_budget budget) (told_run (is_member set) p budget) r o
    → IsRun stands_for [] (woven_budget budget) (told_run kinds p budget) r o
of_told_kinds stands_for o r set kinds p budget same is =
    subst (λ (k : Kinds). IsRun stands_for [] (woven_budget budget) (told_run k p budget) r o)
    (fun_ext {f = is_member set} {g = kinds} same) is

-- the text of a stored run of these
pub record_bytes_are : (units : List ℕ) (p : Program Span) (comments : List Comment) (operations : List Operation)
    (lines : LineTable) (rows : List MapRow) (off : List Pair) → lines ≡ line_table units → rows ≡ id_map p
    → off ≡ off_by units comments
    → bytes_of_run (run_of lines rows off operations) ≡ record_bytes units p comments operations
record_bytes_are units p comments operations lines rows off is these those =
    ap (λ (l : LineTable). bytes_of_run (run_of l rows off operations)) is
    ∙ ap (λ (m : List MapRow). bytes_of_run (run_of (line_table units) m off operations)) these
    ∙ ap (λ (o : List Pair). bytes_of_run (run_of (line_table units) (id_map p) o operations)) those

module _ {O : Type 0} {stands_for : O → List Operation → Type 0} {o : O} {r : Run} (n : ℕ) (ran : mean.Run)
    (is : IsRun stands_for [] n ran r o) where
  pub objects_bytes_are : (rows births : List Births) (bytes : List ℕ) → rows ≡ births
      → bytes ≡ births_lines rows ++ (uncaught_line r.store.heap r.outcome ++ objects_line r.outcome r.steps rows)
      → bytes ≡ objects_bytes ran (steps_taken n ran) births
  objects_bytes_are rows births bytes same b =
      b ∙ ap (λ l. births_lines l ++ (uncaught_line r.store.heap r.outcome ++ objects_line r.outcome r.steps l)) same
      ∙ ap (λ (s : Store). births_lines births ++ (uncaught_line s.heap r.outcome
      ++ objects_line r.outcome r.steps births)) is.store
      ∙ ap (λ e. births_lines births ++ (uncaught_line (world_of ran).store.heap e ++ objects_line e r.steps births))
      is.outcome
      ∙ ap (λ k. births_lines births ++ (uncaught_line (world_of ran).store.heap (ending_of ran)
      ++ objects_line (ending_of ran) k births)) is.steps

  pub cover_bytes_are : (gaps missed : List Missed) (some all : Totals) (bytes : List ℕ) → gaps ≡ missed → some ≡ all
      → bytes ≡ missed_lines gaps ++ (uncaught_line r.store.heap r.outcome ++ cover_line r.outcome r.steps some)
      → bytes ≡ cover_bytes ran (steps_taken n ran) missed all
  cover_bytes_are gaps missed some all bytes same too b =
      b ∙ ap (λ l. missed_lines l ++ (uncaught_line r.store.heap r.outcome ++ cover_line r.outcome r.steps some)) same
      ∙ ap (λ t. missed_lines missed ++ (uncaught_line r.store.heap r.outcome ++ cover_line r.outcome r.steps t)) too
      ∙ ap (λ (s : Store). missed_lines missed ++ (uncaught_line s.heap r.outcome
      ++ cover_line r.outcome r.steps all)) is.store
      ∙ ap (λ e. missed_lines missed ++ (uncaught_line (world_of ran).store.heap e ++ cover_line e r.steps all))
      is.outcome
      ∙ ap (λ k. missed_lines missed ++ (uncaught_line (world_of ran).store.heap (ending_of ran)
      ++ cover_line (ending_of ran) k all)) is.steps
