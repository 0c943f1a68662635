-- Calls of sound functions fail by no Misuse: no body completes with a Break or a Continue.
use Rattle.std.proofs.Common.{ℕ, Bool, true, Some, None}
use Rattle.std.specs.Prelude.{if◌then◌else◌}
use Rattle.jl_ast.specs.Tree as tree
use Rattle.jl_value.specs.Tests.{is_object}
use Rattle.jl_value.specs.declared.ending.Completion.{Completion}
use Rattle.jl_value.specs.declared.ending.Completion.TheVariants as completion
use Rattle.jl_value.specs.declared.value.Value.{Value}
use Rattle.jl_value.specs.declared.value.Value.TheVariants as value
use Rattle.jl_meaning.specs.FunctionObjects.{FunctionTable, ScriptFunction}
use Rattle.jl_meaning.specs.Parts.{Call, Code, Context, Func}
use Rattle.jl_meaning.specs.forms.Functions.{begin_script, call_script, enter_function}
use Rattle.jl_meaning.specs.forms.Functions.{leave_function, new_instance, result_of, run_body, run_function}
use Rattle.jl_meaning.specs.forms.Functions.{this_within}
use Rattle.jl_safety.specs.inner.Jumps.{nothing_around, CodeFits, MayComplete}
use Rattle.jl_safety.specs.inner.Sound.{IsSound}
use Rattle.jl_safety.proofs.Relation.{answer_then, bind, lift_then, ok, perform_safe, pick_safe, thrown, Completes}
use Rattle.jl_safety.proofs.Relation.{Safe}
use Rattle.jl_safety.proofs.Statements.{execute_all_safe}

-- what a body gives that nothing stands round
result_safe : (how : Completion) → MayComplete (nothing_around true) how → Safe (result_of how)
result_safe completion.Normal h = ok value.Undefined
result_safe (completion.Return v) h = ok v
result_safe (completion.Throw v) h = thrown v
result_safe (completion.Break None) h = cc
result_safe (completion.Break (Some x)) h = cc
result_safe (completion.Continue None) h = cc
result_safe (completion.Continue (Some x)) h = cc

leave_safe : (f : ScriptFunction) (how : Completion) → MayComplete (nothing_around true) how
    → Safe (leave_function f how)
leave_safe f how h = perform_safe (result_safe how h)

abbrev function_of : Func → (strict : Bool) → ScriptFunction
function_of f strict = record { func = f; strict = strict }

module _ (table : FunctionTable) where
  pub code_safe : (in_function : Bool) (b : Code) → IsSound b → CodeFits in_function b → (c : Context)
      → Completes (nothing_around in_function) (run_body table b c)
  code_safe in_function (tree.body strict fs l) h j c = execute_all_safe table l (nothing_around in_function) h.1 j c

  run_safe : (f : Func) (strict : Bool) → IsSound f → (this : Value) (call : Call) (c : Context)
      → Safe (run_function table (function_of f strict) this call c)
  run_safe (tree.function m x params b id) strict h this call c =
      perform_safe (answer_then (code_safe true b h.1 h.0 c)
      (leave_safe (function_of (tree.function m x params b id) strict)))

  call_safe : (f : ScriptFunction) → IsSound f.func → (env : ℕ) (call : Call) → Safe (call_script table f env call)
  call_safe f h env call =
      lift_then (this_within f.strict call.this) (λ this. lift_then (enter_function f env this call) (λ c.
      run_safe f.func f.strict h this call c))

  pub script_safe : (f : ScriptFunction) → IsSound f.func → (env : ℕ) (call : Call)
      → Safe (begin_script table f env call)
  script_safe f h env call =
      pick_safe call.by_new (lift_then (new_instance call.callee) (λ object.
      bind (call_safe f h env (record call { this = object })) (λ v. ok (if is_object v then v else object))))
      (call_safe f h env call)
