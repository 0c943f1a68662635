-- No run of a script without early errors ends by the fault Misuse.
use Rattle.std.proofs.Common.{◌≡◌, ℕ, [], false, Some, None, subst}
use Rattle.jl_text.specs.declared.span.Span.{Span}
use Rattle.jl_ast.specs.Tree.{Program}
use Rattle.jl_scope.specs.EarlyErrors.{early_errors_of}
use Rattle.jl_scope.specs.Hoisting.{strict_in}
use Rattle.jl_scope.specs.Scope.{in_program}
use Rattle.jl_value.specs.declared.ending.Completion.{Completion}
use Rattle.jl_value.specs.declared.ending.Completion.TheVariants as completion
use Rattle.jl_op.specs.Chosen.{is_kept, Kinds}
use Rattle.jl_op.specs.Ids.{program_with_ids}
use Rattle.jl_effects.specs.Keeping.{FailsAllowed}
use Rattle.jl_effects.specs.Running.{keeping, nothing_done, Ends, Fails, Over, Spent}
use Rattle.jl_effects.specs.Traces.{with_state, without_operations}
use Rattle.jl_effects.proofs.Steady.{steady_run}
use Rattle.jl_meaning.specs.DeclarationBinding.{declare_program}
use Rattle.jl_meaning.specs.FunctionTable.{function_table}
use Rattle.jl_meaning.specs.Jobs.{job}
use Rattle.jl_meaning.specs.Mean.{end_of, global_context, language, mean, run_of, script, IsNoMisuse, Run}
use Rattle.jl_meaning.specs.Realm.{realm}
use Rattle.jl_quiet.specs.QuietMean.{quiet_mean}
use Rattle.jl_quiet.proofs.Programs.{quiet_means}
use Rattle.jl_safety.specs.inner.Jumps.{nothing_around, CodeFits, MayComplete}
use Rattle.jl_safety.specs.inner.Sound.{IsSound}
use Rattle.jl_safety.proofs.Accepted.{sound}
use Rattle.jl_safety.proofs.Changes.{Keeps}
use Rattle.jl_safety.proofs.Functions.{code_safe}
use Rattle.jl_safety.proofs.Jobs.{job_safe}
use Rattle.jl_safety.proofs.Relation.{algorithm, completed, completion_then, job_of, normally, perform_completes}
use Rattle.jl_safety.proofs.Relation.{sequence, value_then, Completes, MayEnd}
use Rattle.jl_safety.proofs.Scopes.{program_fits}
use Rattle.jl_safety.proofs.Tables.{functions_sound, AllSound}

-- in global code nothing jumps out of the program, and nothing returns
end_safe : (how : Completion) → MayComplete (nothing_around false) how → Completes (nothing_around false) (end_of how)
end_safe completion.Normal h = normally
end_safe (completion.Throw v) h = completed tt
end_safe (completion.Return v) h = cc
end_safe (completion.Break None) h = cc
end_safe (completion.Break (Some x)) h = cc
end_safe (completion.Continue None) h = cc
end_safe (completion.Continue (Some x)) h = cc

program_safe : (p : Program ℕ) → IsSound p.body → CodeFits false p.body
    → Completes (nothing_around false) (script p)
program_safe p h j =
    value_then (algorithm (declare_program p.body (global_context p))) (λ done.
    perform_completes (completion_then
    (sequence (code_safe (function_table p) false p.body h j (global_context p)) (perform_completes normally))
    end_safe))

table_sound : (p : Program ℕ) → IsSound p.body → AllSound (function_table p)
unfolding function_table
table_sound p h = functions_sound (strict_in false p.body) p.body h

full_output : IsNoMisuse language.full
unfolding language
full_output is = cc

-- the run of a sound program with its ids
never_misuses : (chosen : Kinds) (p : Program ℕ) → IsSound p.body → CodeFits false p.body → (n : ℕ)
    → FailsAllowed IsNoMisuse (run_of chosen p n)
unfolding language
never_misuses chosen p h j n =
    steady_run language (keeping (is_kept chosen)) (job (function_table p)) Keeps IsNoMisuse job_of MayEnd full_output
    (job_safe (function_table p) (table_sound p h))
    (λ how t. Keeps realm t × MayComplete (nothing_around false) how) n (script p) (nothing_done realm)
    ((program_safe p h j).at realm)

pub accepted_never_misuses : (chosen : Kinds) (p : Program Span) → early_errors_of p ≡ [] → (n : ℕ)
    → FailsAllowed IsNoMisuse (mean chosen p n)
accepted_never_misuses chosen p e n =
    never_misuses chosen (program_with_ids p) (sound (in_program p.body) p.body e 3) (program_fits p.body e 3) n

-- how a run fails doesn't depend on its state
same_fault : (r : Run) → FailsAllowed IsNoMisuse r → FailsAllowed IsNoMisuse (with_state without_operations r)
same_fault (Over (Ends a) left w) h = tt
same_fault (Over (Fails f) left w) h = h
same_fault (Spent w) h = tt

pub also_quietly : {S : Type 0} (chosen : Kinds) (p : Program S) (n : ℕ) → FailsAllowed IsNoMisuse (mean chosen p n)
    → FailsAllowed IsNoMisuse (quiet_mean chosen p n)
also_quietly chosen p n h =
    subst (FailsAllowed IsNoMisuse) (quiet_means chosen p n) (same_fault (mean chosen p n) h)
