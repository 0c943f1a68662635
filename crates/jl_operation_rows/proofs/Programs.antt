-- What a program performs are operations of its rows.
use Rattle.std.proofs.Common.{◌≡◌, ℕ, zero, suc, ◌+◌, false, refl, ap, arith}
use mathlib.Core.Path.{fun_ext}
use Rattle.jl_ast.specs.Tree.{Program}
use Rattle.jl_scope.specs.Hoisting.{strict_in}
use Rattle.jl_value.specs.declared.ending.Completion.{Completion}
use Rattle.jl_value.specs.declared.ending.Completion.TheVariants as completion
use Rattle.jl_value.specs.declared.ending.Fault.TheVariants.{Misuse}
use Rattle.jl_op.specs.Chosen.{is_kept, Kinds}
use Rattle.jl_op.specs.IdMap.{id_of, operation_ids, program_entries, MapEntry, Saying}
use Rattle.jl_effects.specs.Running.{keeping, state_of}
use Rattle.jl_meaning.specs.DeclarationBinding.{declare_program}
use Rattle.jl_meaning.specs.FunctionTable.{function_table}
use Rattle.jl_meaning.specs.Jobs.{job}
use Rattle.jl_meaning.specs.Mean.{end_of, global_context, language, run_of, script}
use Rattle.jl_meaning.specs.Realm.{realm}
use Rattle.jl_operation_rows.proofs.Functions.{code_told, job_told}
use Rattle.jl_operation_rows.proofs.Relation.{algorithm, by_id, ended, fails, id_at, in_a_row, perform_told, sequence}
use Rattle.jl_operation_rows.proofs.Relation.{value_then}
use Rattle.jl_operation_rows.proofs.Relation.{IsGood, IsOwn, Told}
use Rattle.jl_operation_rows.proofs.Tables.{functions, AllOwned}
use Rattle.jl_effects.proofs.Tells.{run_tells, Each}

module _ (IsRow : MapEntry ℕ → Type 0) where
  end_told : (how : Completion) → Told IsRow (end_of how)
  end_told completion.Normal = ended completion.Normal
  end_told (completion.Throw v) = ended _
  end_told (completion.Return v) = fails Misuse
  end_told (completion.Break x) = fails Misuse
  end_told (completion.Continue x) = fails Misuse

  module _ (p : Program ℕ) (rows : Each IsRow (program_entries by_id p)) where
    script_told : Told IsRow (script p)
    script_told =
        value_then (algorithm (declare_program p.body (global_context p))) (λ done.
        perform_told (λ s. (rows.0, tt)) (in_a_row (sequence
        (code_told IsRow (function_table p) p.body rows.1.1 (global_context p))
        (perform_told (λ s. (rows.1.0, tt)) (ended completion.Normal))) end_told))

    table_owned : AllOwned IsRow (function_table p)
    unfolding function_table
    table_owned = functions IsRow (strict_in false p.body) p.body rows.1.1

    pub run_told : (chosen : Kinds) (n : ℕ) → Each (IsOwn IsRow) (state_of (run_of chosen p n)).operations
    run_told chosen n =
        run_tells language (keeping (is_kept chosen)) (job (function_table p)) (IsOwn IsRow) (IsGood IsRow)
        (λ j h. (job_told IsRow (function_table p) table_owned j h).at) n (script p) realm script_told.at

-- the ids of the language are those of the map
same_id : (s i : ℕ) → id_at s i ≡ s + i
same_id s zero = omega arith
same_id s (suc i) = refl

same_saying : by_id ≡ id_of
same_saying =
    ap (λ (f : ℕ → ℕ → ℕ). record { of_node = f; of_test = λ s e. s }) (fun_ext (λ s. fun_ext (λ i. same_id s i)))

pub same_entries : (p : Program ℕ) → program_entries by_id p ≡ operation_ids p
same_entries p = ap (λ (say : Saying ℕ ℕ). program_entries say p) same_saying
