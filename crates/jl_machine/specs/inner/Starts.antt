-- What a run begins with.
use Rattle.std.specs.Prelude.{[], ◌≡◌, ℕ}
use Rattle.jl_text.specs.declared.span.Span.{Span}
use Rattle.jl_ast.specs.Tree.{Program}
use Rattle.jl_value.specs.declared.ending.Completion.{Completion}
use Rattle.jl_effects.specs.Effects.{and_then}
use Rattle.jl_meaning.specs.Completions.{on_given}
use Rattle.jl_meaning.specs.DeclarationBinding.{declare_program}
use Rattle.jl_meaning.specs.FunctionObjects.{FunctionTable}
use Rattle.jl_meaning.specs.FunctionTable.{function_table}
use Rattle.jl_meaning.specs.Parts.{lift, Code, Context, Part}
use Rattle.jl_meaning.specs.Realm.{realm}
use Rattle.jl_meaning.specs.forms.Functions.{run_body}
use Rattle.jl_quiet.specs.QuietMean.{without_ids}
use Rattle.jl_state.specs.Words.{table_of}
use Rattle.jl_state.specs.declared.state.State.{State}

-- the state in which the run of a program begins, with so many steps
pub record IsStart (p : Program Span) (budget : ℕ) (s : State) : Type 0 where
  pub store : s.store ≡ realm
  pub functions : table_of s.functions ≡ function_table (without_ids p)
  pub calls : s.calls ≡ []
  pub stack : s.stack ≡ []
  pub output : s.output ≡ []
  pub left : s.left ≡ budget

-- what a program declares is bound, and then its statements run
abbrev pub program_body : FunctionTable → Code → (bound running : Context) → Part Completion
program_body table code bound running =
    and_then (lift (declare_program code bound)) (on_given (λ _. run_body table code running))
