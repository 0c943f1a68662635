-- What a program means: the run of what it does, from the realm.
use Rattle.std.specs.Prelude.{false, ◌≡◌, ◌+◌, None, ℕ}
use Rattle.jl_ast.specs.Tree.{Program}
use Rattle.jl_scope.specs.Hoisting.{strict_in}
use Rattle.jl_value.specs.declared.ending.Completion.{Completion}
use Rattle.jl_value.specs.declared.ending.Completion.TheVariants as completion
use Rattle.jl_value.specs.declared.ending.Fault.{Fault}
use Rattle.jl_value.specs.declared.ending.Fault.TheVariants.{Misuse}
use Rattle.jl_value.specs.declared.ending.Fault.TheVariants as fault
use Rattle.jl_op.specs.Chosen.{is_kept, Kinds}
use Rattle.jl_op.specs.Ids.{program_with_ids}
use Rattle.jl_op.specs.Operations.{Operation}
use Rattle.jl_op.specs.declared.op.Op.TheVariants as op
use Rattle.jl_effects.specs.Effects.{and_then, End, Fail}
use Rattle.jl_effects.specs.Running as running
use Rattle.jl_meaning.specs.Changes.{apply, StoreChange}
use Rattle.jl_meaning.specs.Completions.{normal, then_do, ◌>>=◌}
use Rattle.jl_meaning.specs.DeclarationBinding.{declare_program}
use Rattle.jl_meaning.specs.FunctionTable.{function_table}
use Rattle.jl_meaning.specs.Jobs.{job}
use Rattle.jl_meaning.specs.Noting.{note, performs}
use Rattle.jl_meaning.specs.Parts.{lift, Context, Part}
use Rattle.jl_meaning.specs.Realm.{realm}
use Rattle.jl_meaning.specs.Store.{Store}
use Rattle.jl_meaning.specs.forms.Functions.{run_body}

-- global code (10.4.1)
abbrev pub global_context : Program ℕ → Context
global_context p = record { env = 0; strict = strict_in false p.body; call = None }

-- a program ends normally or by what it throws; no program completes otherwise (clause 14)
abbrev pub end_of : Completion → Part Completion
end_of completion.Normal = normal
end_of (completion.Throw v) = End (completion.Throw v)
end_of _ = Fail Misuse

-- the statements of a program, and its normal end
abbrev pub run_program : Program ℕ → Part Completion
run_program p = then_do (run_body (function_table p) p.body (global_context p)) (do
  _ ← note performs (p.at + 1) (λ heap. op.ScriptExit)
  normal)

-- what a program does (clause 14): what it declares is bound, and then its statements run
abbrev pub script : Program ℕ → Part Completion
script p = do
  _ ← lift (declare_program p.body (global_context p))
  _ ← note performs p.at (λ heap. op.ScriptEnter)
  and_then (run_program p) end_of

-- the language: what changes make of stores, and the fault of output beyond 16 MiB
unfoldable pub language : running.Language Store StoreChange Fault
language = record { apply = apply; limit = 16777216; full = fault.OutputTooLong }

-- what a run comes to
abbrev pub Run : Type 0
Run = running.Outcome Store Fault Operation Completion

-- the run of a program that has its ids, with so many steps; hooks emit operations of the chosen kinds alone
abbrev pub run_of : Kinds → Program ℕ → (steps : ℕ) → Run
run_of chosen p n =
    running.run language (running.keeping (is_kept chosen)) (job (function_table p)) n (script p)
    (running.nothing_done realm)

-- the run of a program, which doesn't depend on where its nodes stand
abbrev pub mean : {S : Type 0} → Kinds → Program S → (steps : ℕ) → Run
mean chosen p n = run_of chosen (program_with_ids p) n

-- a fault that is no misuse of hooks
abbrev pub IsNoMisuse : Fault → Type 0
IsNoMisuse f = f ≡ Misuse → ⊥
