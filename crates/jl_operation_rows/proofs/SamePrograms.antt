-- Programs that are the same but for their places perform the same operations, one by one, with the ids of each.
use Rattle.std.proofs.Common.{◌≡◌, ℕ, ◌+◌, [], refl, sym, ap, subst}
use Rattle.jl_ast.specs.Spans.{map_spans, map_tree}
use Rattle.jl_ast.specs.Tree as tree
use Rattle.jl_ast.specs.Tree.{Program}
use Rattle.jl_op.specs.Chosen.{is_kept, Kinds}
use Rattle.jl_op.specs.declared.op.Op.TheVariants as op
use Rattle.jl_value.specs.declared.ending.Completion.{Completion}
use Rattle.jl_value.specs.declared.ending.Completion.TheVariants as completion
use Rattle.jl_effects.specs.Effects.{and_then}
use Rattle.jl_effects.specs.Running.{state_of}
use Rattle.jl_meaning.specs.Completions.{normal, then_do, ◌>>=◌}
use Rattle.jl_meaning.specs.DeclarationBinding.{declare_program}
use Rattle.jl_meaning.specs.FunctionObjects.{FunctionTable}
use Rattle.jl_meaning.specs.FunctionTable.{function_table}
use Rattle.jl_meaning.specs.Jobs.{job}
use Rattle.jl_meaning.specs.Mean.{end_of, global_context, language, run_of, script}
use Rattle.jl_meaning.specs.Noting.{note, performs}
use Rattle.jl_meaning.specs.Parts.{lift, Code, Context, Job, Part}
use Rattle.jl_meaning.specs.Realm.{realm}
use Rattle.jl_meaning.specs.forms.Functions.{run_body}
use Rattle.jl_operation_rows.proofs.MappedTables.{program_table}
use Rattle.jl_operation_rows.proofs.Pairs.{ends, fails, runs_paired, AllPaired}
use Rattle.jl_operation_rows.proofs.Renaming.{algorithm, at_place, perform, second_is, sequence, then_same, value_then}
use Rattle.jl_operation_rows.proofs.Renaming.{Renaming, Same, SameJob, SameOperation}
use Rattle.jl_operation_rows.proofs.SameJobs.{body_same, jobs_same, map_table}
use Rattle.jl_operation_rows.proofs.SameMade.{program_same}

-- what a program does, over a table of functions
abbrev script_over : FunctionTable → Code → (at : ℕ) → Context → Part Completion
script_over table b at c = do
  _ ← lift (declare_program b c)
  _ ← note performs at (λ heap. op.ScriptEnter)
  and_then (then_do (run_body table b c) (do
    _ ← note performs (at + 1) (λ heap. op.ScriptExit)
    normal)) end_of

end_same : {r : Renaming} (how : Completion) → Same r (end_of how) (end_of how)
end_same completion.Normal = ends
end_same (completion.Throw v) = ends
end_same (completion.Return v) = fails
end_same (completion.Break x) = fails
end_same (completion.Continue x) = fails

module _ (r : Renaming) where
  over_same : (table : FunctionTable) (b : Code) (s : ℕ) (c : Context)
      → Same r (script_over (map_table r.from table) (map_tree r.from b) (r.from s) c)
      (script_over (map_table r.to table) (map_tree r.to b) (r.to s) c)
  over_same table b s c =
      let ids = at_place r s in
      value_then (second_is (ap (λ p. lift p) (program_same r.from r.to b c))
      (algorithm (declare_program (map_tree r.from b) c))) (λ done.
      perform ids.first (then_same (sequence (body_same r table b c) (perform ids.second ends)) end_same))

  module _ (p : Program ℕ) where
    abbrev old : FunctionTable
    old = map_table r.from (function_table p)

    abbrev new : FunctionTable
    new = map_table r.to (function_table p)

    -- the script over its own table
    script_of : (f : ℕ → ℕ) (c : Context) → script_over (map_table f (function_table p)) (map_tree f p.body) (f p.at) c
        ≡ script_over (function_table (map_spans f p)) (map_tree f p.body) (f p.at) c
    script_of f c = ap (λ table. script_over table (map_tree f p.body) (f p.at) c) (sym (program_table f p))

    context_same : (b : Code) (at at' : ℕ)
        → global_context (record { body = map_tree r.from b; at = at })
        ≡ global_context (record { body = map_tree r.to b; at = at' })
    context_same (tree.body strict fs l) at at' = refl

    scripts_same : Same r (script (map_spans r.from p)) (script (map_spans r.to p))
    scripts_same =
        let c = global_context (map_spans r.from p) in
        second_is (ap (λ context. script_over (function_table (map_spans r.to p)) (map_tree r.to p.body) (r.to p.at)
        context) (context_same p.body (r.from p.at) (r.to p.at)))
        (second_is (script_of r.to c)
        (subst (λ part. Same r part (script_over new (map_tree r.to p.body) (r.to p.at) c)) (script_of r.from c)
        (over_same (function_table p) p.body p.at c)))

    table_jobs : (i j : Job) → SameJob r i j
        → Same r (job (function_table (map_spans r.from p)) i) (job (function_table (map_spans r.to p)) j)
    table_jobs i j h =
        second_is (ap (λ table. job table j) (sym (program_table r.to p)))
        (subst (λ table. Same r (job table i) (job new j)) (sym (program_table r.from p))
        (jobs_same r (function_table p) i j h))

    -- the operations of both runs
    pub performed_same : (chosen : Kinds) (n : ℕ)
        → AllPaired (SameOperation r) (state_of (run_of chosen (map_spans r.from p) n)).operations
        (state_of (run_of chosen (map_spans r.to p) n)).operations
    performed_same chosen n =
        runs_paired language (is_kept chosen) (job (function_table (map_spans r.from p)))
        (job (function_table (map_spans r.to p))) (SameOperation r) (SameJob r) table_jobs n scripts_same realm [] [] []
        [] tt
