-- Calls pay for what hooks emit in them, and so do all jobs.
use Rattle.std.proofs.Common.{ℕ, ◌++◌, Some, None, Option, slice_get}
use Rattle.std.specs.Prelude.{if◌then◌else◌}
use Rattle.jl_ast.specs.Tree as tree
use Rattle.jl_value.specs.Tests.{is_object}
use Rattle.jl_value.specs.declared.ending.Completion.{Completion}
use Rattle.jl_value.specs.declared.ending.Completion.TheVariants as completion
use Rattle.jl_value.specs.declared.ending.Fault.TheVariants.{Misuse}
use Rattle.jl_value.specs.declared.value.Value.{Value}
use Rattle.jl_value.specs.declared.value.Value.TheVariants as value
use Rattle.jl_heap.specs.Objects.{object_at, Objects}
use Rattle.jl_heap.specs.declared.inner.Inner.{Inner}
use Rattle.jl_heap.specs.declared.inner.Inner.TheVariants as inner
use Rattle.jl_meaning.specs.FunctionObjects.{function_body, has_construct, FunctionTable, ScriptFunction}
use Rattle.jl_meaning.specs.Jobs.{begin_known, call_bound, call_inside, job}
use Rattle.jl_meaning.specs.Parts.{completion_of, Call, CallOf, Code, Context, Job, TurnOf}
use Rattle.jl_meaning.specs.builtins.Function.{names_of}
use Rattle.jl_meaning.specs.builtins.Table.{builtin_algorithm}
use Rattle.jl_meaning.specs.forms.Functions.{begin_script, call_script, enter_function, new_instance}
use Rattle.jl_meaning.specs.forms.Functions.{result_of, run_body, run_function, this_within}
use Rattle.jl_hook_bound.proofs.Forms.{lift_free}
use Rattle.jl_hook_bound.proofs.Relation.{algorithm, bind, ended, fails, in_a_row, look_paid, ok, perform_paid, pick, Paid}
use Rattle.jl_hook_bound.proofs.Statements.{execute_all_free, turn_free}

result_free : (how : Completion) → Paid 0 0 (result_of how)
result_free completion.Normal = ok value.Undefined
result_free (completion.Return v) = ok v
result_free (completion.Throw v) = ended _
result_free (completion.Break x) = fails Misuse
result_free (completion.Continue x) = fails Misuse

module _ (table : FunctionTable) where
  pub code_free : (b : Code) (c : Context) → Paid 0 0 (run_body table b c)
  code_free (tree.body strict fs l) c = execute_all_free table l c

  run_free : (f : ScriptFunction) (this : Value) (call : Call) (c : Context)
      → Paid 0 0 (run_function table f this call c)
  run_free f this call c =
      perform_paid (in_a_row (code_free (function_body f.func) c) (λ how. perform_paid (result_free how)))

  call_free : (f : ScriptFunction) (env : ℕ) (call : Call) → Paid 0 0 (call_script table f env call)
  call_free f env call =
      lift_free (this_within f.strict call.this) (λ this. lift_free (enter_function f env this call) (λ c.
      run_free f this call c))

  script_free : (f : ScriptFunction) (env : ℕ) (call : Call) → Paid 0 0 (begin_script table f env call)
  script_free f env call =
      pick call.by_new (lift_free (new_instance call.callee) (λ object.
      bind (call_free f env (record call { this = object })) (λ v. ok (if is_object v then v else object))))
      (call_free f env call)

  known_free : (o : Option ScriptFunction) (env : ℕ) (call : Call) → Paid 0 0 (begin_known table o env call)
  known_free None env call = ok value.Undefined
  known_free (Some f) env call = script_free f env call

  inside_free : (heap : Objects) (call : Call) (i : Inner) → Paid 0 0 (call_inside table heap call i)
  inside_free heap call (inner.Script number env) = known_free (slice_get table number) env call
  inside_free heap call (inner.Native b) = algorithm (builtin_algorithm (names_of table) b call)
  inside_free heap call (inner.Bound target this args) =
      algorithm (call_bound (has_construct (object_at heap target.0).inner) target this (args ++ call.args)
      call.by_new)
  inside_free heap call _ = ok value.Undefined

  pub job_free : (j : Job) → Paid 0 0 (job table j)
  job_free (CallOf call) =
      look_paid (λ s. in_a_row (inside_free s.heap call (object_at s.heap call.callee.0).inner) (λ a.
      ended (completion_of a)))
  job_free (TurnOf t) = turn_free table t
