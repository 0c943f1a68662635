-- No run emits more operations than it takes steps.
use Rattle.std.proofs.Common.{ℕ, ◌≤◌, length}
use Rattle.jl_ast.specs.Tree.{Program}
use Rattle.jl_value.specs.declared.ending.Completion.{Completion}
use Rattle.jl_value.specs.declared.ending.Completion.TheVariants as completion
use Rattle.jl_value.specs.declared.ending.Fault.TheVariants.{Misuse}
use Rattle.jl_op.specs.Chosen.{is_kept, Kinds}
use Rattle.jl_op.specs.Ids.{program_with_ids}
use Rattle.jl_op.specs.Operations.{Operation}
use Rattle.jl_effects.specs.Running.{keeping, nothing_done, run, state_of, steps_taken, Recorded}
use Rattle.jl_effects.specs.Traces.{quietly}
use Rattle.jl_meaning.specs.DeclarationBinding.{declare_program}
use Rattle.jl_meaning.specs.FunctionTable.{function_table}
use Rattle.jl_meaning.specs.Jobs.{job}
use Rattle.jl_meaning.specs.Mean.{end_of, global_context, language, mean, script}
use Rattle.jl_meaning.specs.Realm.{realm}
use Rattle.jl_quiet.specs.QuietMean.{quiet_mean, without_ids}
use Rattle.jl_effects.proofs.Credit.{run_pays_all}
use Rattle.jl_hook_bound.proofs.Functions.{code_free, job_free}
use Rattle.jl_hook_bound.proofs.Relation.{algorithm, ended, fails, in_a_row, perform_paid, sequence, value_then, Paid}

end_free : (how : Completion) → Paid 0 0 (end_of how)
end_free completion.Normal = ended completion.Normal
end_free (completion.Throw v) = ended _
end_free (completion.Return v) = fails Misuse
end_free (completion.Break x) = fails Misuse
end_free (completion.Continue x) = fails Misuse

script_free : (p : Program ℕ) → Paid 0 0 (script p)
script_free p =
    value_then (algorithm (declare_program p.body (global_context p))) (λ done.
    perform_paid (in_a_row (sequence (code_free (function_table p) p.body (global_context p))
    (perform_paid (ended completion.Normal))) end_free))

-- whatever of its operations a run records
run_takes_steps : (recorded : Recorded Operation) (p : Program ℕ) (n : ℕ)
    → length (state_of (run language recorded (job (function_table p)) n (script p) (nothing_done realm))).hooks
    ≤ steps_taken n (run language recorded (job (function_table p)) n (script p) (nothing_done realm))
run_takes_steps recorded p n =
    run_pays_all language recorded (job (function_table p)) (λ j. (job_free (function_table p) j).at) n (script p) realm
    (script_free p).at

pub hooks_take_steps : {S : Type 0} (chosen : Kinds) (p : Program S) (n : ℕ)
    → length (state_of (mean chosen p n)).hooks ≤ steps_taken n (mean chosen p n)
hooks_take_steps chosen p n = run_takes_steps (keeping (is_kept chosen)) (program_with_ids p) n

pub quiet_hooks_take_steps : {S : Type 0} (chosen : Kinds) (p : Program S) (n : ℕ)
    → length (state_of (quiet_mean chosen p n)).hooks ≤ steps_taken n (quiet_mean chosen p n)
quiet_hooks_take_steps chosen p n = run_takes_steps (quietly (is_kept chosen)) (without_ids p) n
