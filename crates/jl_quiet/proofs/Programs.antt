-- Programs that are the same but for their places have the same quiet runs.
use Rattle.std.proofs.Common.{◌≡◌, ℕ, ◌+◌, sym, ap, ◌∙◌}
use Rattle.jl_ast.specs.Tree as tree
use Rattle.jl_ast.specs.Tree.{Program}
use Rattle.jl_op.specs.Chosen.{is_kept, Kinds}
use Rattle.jl_op.specs.Ids.{program_with_ids}
use Rattle.jl_op.specs.declared.op.Op.TheVariants as op
use Rattle.jl_effects.specs.Effects.{and_then}
use Rattle.jl_effects.specs.Running.{nothing_done, run}
use Rattle.jl_effects.specs.Traces.{quietly}
use Rattle.jl_effects.proofs.Traces.{run_quietly}
use Rattle.jl_meaning.specs.Completions.{normal, then_do, ◌>>=◌}
use Rattle.jl_meaning.specs.DeclarationBinding.{declare_program}
use Rattle.jl_meaning.specs.FunctionObjects.{FunctionTable}
use Rattle.jl_meaning.specs.FunctionTable.{function_table}
use Rattle.jl_meaning.specs.Jobs.{job}
use Rattle.jl_meaning.specs.Mean.{end_of, global_context, language, script, Run}
use Rattle.jl_meaning.specs.Noting.{note, performs}
use Rattle.jl_meaning.specs.Parts.{lift, Code, Context, Job, Part}
use Rattle.jl_meaning.specs.Realm.{realm}
use Rattle.jl_meaning.specs.forms.Functions.{run_body}
use Rattle.jl_value.specs.declared.ending.Completion.{Completion}
use Rattle.jl_quiet.specs.QuietMean.{quiet_run, without_ids, IdsDoNotMatter, QuietMeans, Start}
use Rattle.jl_quiet.proofs.Bare.{bare, same_without_ids, without_again}
use Rattle.jl_quiet.proofs.BareIds.{bare_ids_program}
use Rattle.jl_quiet.proofs.Declarations.{program_same}
use Rattle.jl_quiet.proofs.Functions.{body_alike}
use Rattle.jl_quiet.proofs.Jobs.{callees_same, job_alike}
use Rattle.jl_quiet.proofs.QuietParts.{quiet_part, same_run}
use Rattle.jl_quiet.proofs.Relation.{bare_job, then_alike, itself, perform_alike, second_is, sequence, value_alike}
use Rattle.jl_quiet.proofs.Relation.{Alike}
use Rattle.jl_quiet.proofs.Tables.{bare_table, program_table}

-- what a program does, over a table of functions
abbrev script_over : FunctionTable → Program ℕ → Part Completion
script_over table p = do
  _ ← lift (declare_program p.body (global_context p))
  _ ← note performs p.at (λ heap. op.ScriptEnter)
  and_then (then_do (run_body table p.body (global_context p)) (do
    _ ← note performs (p.at + 1) (λ heap. op.ScriptExit)
    normal)) end_of

abbrev program_of : Code → ℕ → Program ℕ
program_of b at = record { body = b; at = at }

over_alike : (table : FunctionTable) (b : Code) (at : ℕ)
    → Alike (script_over table (program_of b at)) (script_over (bare_table table) (program_of (bare b) 0))
over_alike table (tree.body strict fs l) at =
    let b : Code = tree.body strict fs l in
    let c : Context = global_context (program_of b at) in
    value_alike (second_is (ap (λ p. lift p) (program_same b c)) (itself (lift (declare_program b c)))) (λ done.
    perform_alike (then_alike (sequence (body_alike table (bare_table table) (callees_same table) b c)
    (perform_alike (itself normal))) (λ how. itself (end_of how))))

program_alike : (p : Program ℕ) → Alike (script p) (script (without_ids p))
program_alike p =
    second_is (ap (λ table. script_over table (without_ids p)) (sym (program_table p)))
    (over_alike (function_table p) p.body p.at)

-- the run of what is left of a program when it is quiet
abbrev rest_run : Kinds → Program ℕ → (steps : ℕ) → Start → Run
rest_run chosen p n start =
    run language (quietly (is_kept chosen)) (λ j. quiet_part bare_job (job (function_table p) j)) n
    (quiet_part bare_job (script p)) start

module _ (chosen : Kinds) (n : ℕ) (start : Start) where
  rest_same : (p : Program ℕ) → quiet_run chosen p n start ≡ rest_run chosen (without_ids p) n start
  rest_same p =
      let jobs : Job → Part Completion = λ j. quiet_part bare_job (job (function_table (without_ids p)) j) in
      same_run language (is_kept chosen) bare_job (job (function_table p)) jobs
      (λ j. (job_alike (function_table p) j).same
      ∙ ap (λ table. quiet_part bare_job (job table (bare_job j))) (sym (program_table p))) n (script p) start
      ∙ ap (λ q. run language (quietly (is_kept chosen)) jobs n q start) (program_alike p).same

  pub run_same : (p : Program ℕ) → quiet_run chosen p n start ≡ quiet_run chosen (without_ids p) n start
  run_same p =
      rest_same p
      ∙ sym (rest_same (without_ids p) ∙ ap (λ q. rest_run chosen q n start) (without_again (λ s. 0) p))

pub ids_do_not_matter : (chosen : Kinds) (p q : Program ℕ) → IdsDoNotMatter chosen p q
ids_do_not_matter chosen p q e n start =
    run_same chosen n start p ∙ ap (λ r. quiet_run chosen r n start) (same_without_ids p q e)
    ∙ sym (run_same chosen n start q)

pub quiet_means : {S : Type 0} (chosen : Kinds) (p : Program S) → QuietMeans chosen p
quiet_means chosen p n =
    let q : Program ℕ = program_with_ids p in
    sym (run_quietly language (is_kept chosen) (job (function_table q)) n (script q) (nothing_done realm))
    ∙ run_same chosen n (nothing_done realm) q
    ∙ ap (λ r. quiet_run chosen r n (nothing_done realm)) (bare_ids_program p)
