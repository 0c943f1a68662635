-- Calls, and all jobs, perform the operations of the rows of their functions.
use Rattle.std.proofs.Common.{ℕ, zero, suc, [], ◌∷◌, ◌++◌, Bool, slice_get}
use Rattle.std.specs.Prelude.{if◌then◌else◌}
use Rattle.jl_ast.specs.Tree as tree
use Rattle.jl_value.specs.Tests.{is_object}
use Rattle.jl_value.specs.declared.ending.Completion.{Completion}
use Rattle.jl_value.specs.declared.ending.Completion.TheVariants as completion
use Rattle.jl_value.specs.declared.ending.Fault.TheVariants.{Misuse}
use Rattle.jl_value.specs.declared.value.Value.{Value}
use Rattle.jl_value.specs.declared.value.Value.TheVariants as value
use Rattle.jl_heap.specs.Objects.{object_at, Objects}
use Rattle.jl_heap.specs.declared.inner.Inner.{Inner}
use Rattle.jl_heap.specs.declared.inner.Inner.TheVariants as inner
use Rattle.jl_op.specs.IdMap.{MapEntry}
use Rattle.jl_meaning.specs.FunctionObjects.{has_construct, FunctionTable, ScriptFunction}
use Rattle.jl_meaning.specs.Jobs.{begin_known, call_bound, call_inside, job}
use Rattle.jl_meaning.specs.Parts.{completion_of, Call, CallOf, Code, Context, Func, Job, TurnOf}
use Rattle.jl_meaning.specs.builtins.Function.{names_of}
use Rattle.jl_meaning.specs.builtins.Table.{builtin_algorithm}
use Rattle.jl_meaning.specs.forms.Functions.{begin_script, call_script, enter_function, new_instance}
use Rattle.jl_meaning.specs.forms.Functions.{result_of, run_body, run_function, this_within}
use Rattle.jl_operation_rows.proofs.Relation.{algorithm, bind, ended, fails, in_a_row, lift_then, look_told, ok}
use Rattle.jl_operation_rows.proofs.Relation.{perform_told}
use Rattle.jl_operation_rows.proofs.Relation.{pick, IsGood, Rows, Told}
use Rattle.jl_operation_rows.proofs.Seeing.{one_seen}
use Rattle.jl_operation_rows.proofs.Splitting.{of_all, split}
use Rattle.jl_operation_rows.proofs.Statements.{execute_all_told, turn_told}
use Rattle.jl_operation_rows.proofs.Tables.{AllOwned}

module _ (IsRow : MapEntry ℕ → Type 0) (table : FunctionTable) where
  result_told : (how : Completion) → Told IsRow (result_of how)
  result_told completion.Normal = ok value.Undefined
  result_told (completion.Return v) = ok v
  result_told (completion.Throw v) = ended _
  result_told (completion.Break x) = fails Misuse
  result_told (completion.Continue x) = fails Misuse

  pub code_told : (b : Code) → Rows IsRow b → (c : Context) → Told IsRow (run_body table b c)
  code_told (tree.body strict fs l) h c =
      execute_all_told IsRow table l (split IsRow (of_all fs) (of_all l) h).1 c

  abbrev function_of : Func → (strict : Bool) → ScriptFunction
  function_of f strict = record { func = f; strict = strict }

  run_told : (f : Func) (strict : Bool) → Rows IsRow f → (this : Value) (call : Call) (c : Context)
      → Told IsRow (run_function table (function_of f strict) this call c)
  run_told (tree.function m x params b id) strict h this call c =
      perform_told (λ s. (h.0, one_seen s.heap this)) (in_a_row (code_told b h.1.1 c) (λ how.
      perform_told (λ s. (h.1.0, tt)) (result_told how)))

  call_told : (f : ScriptFunction) → Rows IsRow f.func → (env : ℕ) (call : Call)
      → Told IsRow (call_script table f env call)
  call_told f h env call =
      lift_then (this_within f.strict call.this) (λ this. lift_then (enter_function f env this call) (λ c.
      run_told f.func f.strict h this call c))

  script_told : (f : ScriptFunction) → Rows IsRow f.func → (env : ℕ) (call : Call)
      → Told IsRow (begin_script table f env call)
  script_told f h env call =
      pick call.by_new (lift_then (new_instance call.callee) (λ object.
      bind (call_told f h env (record call { this = object })) (λ v. ok (if is_object v then v else object))))
      (call_told f h env call)

  known_told : (l : FunctionTable) → AllOwned IsRow l → (k env : ℕ) (call : Call)
      → Told IsRow (begin_known table (slice_get l k) env call)
  known_told [] h k env call = ok value.Undefined
  known_told (f ∷ l) h zero env call = script_told f h.0 env call
  known_told (f ∷ l) h (suc k) env call = known_told l h.1 k env call

  module _ (all : AllOwned IsRow table) where
    inside_told : (heap : Objects) (call : Call) (i : Inner) → Told IsRow (call_inside table heap call i)
    inside_told heap call (inner.Script number env) = known_told table all number env call
    inside_told heap call (inner.Native b) = algorithm (builtin_algorithm (names_of table) b call)
    inside_told heap call (inner.Bound target this args) =
        algorithm (call_bound (has_construct (object_at heap target.0).inner) target this (args ++ call.args)
        call.by_new)
    inside_told heap call _ = ok value.Undefined

    pub job_told : (j : Job) → IsGood IsRow j → Told IsRow (job table j)
    job_told (CallOf call) h =
        look_told (λ s. in_a_row (inside_told s.heap call (object_at s.heap call.callee.0).inner) (λ a.
        ended (completion_of a)))
    job_told (TurnOf t) h = turn_told IsRow table t h
