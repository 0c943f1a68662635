-- Calls of functions do the same with no ids, but for what they perform.
use Rattle.std.proofs.Common.{◌≡◌, ℕ, Bool, refl, ap}
use Rattle.jl_ast.specs.Tree as tree
use Rattle.jl_value.specs.declared.ending.Completion.{Completion}
use Rattle.jl_value.specs.declared.value.Value.{Value}
use Rattle.jl_heap.specs.declared.inner.Inner.{Inner}
use Rattle.jl_meaning.specs.FunctionObjects.{callee_of, FunctionTable, ScriptFunction}
use Rattle.jl_meaning.specs.Parts.{lift, Call, Code, Context, Func}
use Rattle.jl_meaning.specs.forms.Functions.{begin_script, call_script, construct_script, enter_function}
use Rattle.jl_meaning.specs.forms.Functions.{leave_function}
use Rattle.jl_meaning.specs.forms.Functions.{new_instance, run_body, run_function, this_within}
use Rattle.jl_quiet.proofs.Bare.{bare}
use Rattle.jl_quiet.proofs.Declarations.{enter_same}
use Rattle.jl_quiet.proofs.Relation.{bind, then_alike, itself, lift_alike, perform_alike, pick, second_is, Alike}
use Rattle.jl_quiet.proofs.Statements.{execute_all_alike}
use Rattle.jl_quiet.proofs.Tables.{bare_function}

abbrev function_of : Func → (strict : Bool) → ScriptFunction
function_of f strict = record { func = f; strict = strict }

enter_alike : (f : Func) (strict : Bool) (env : ℕ) (this : Value) (call : Call)
    → Alike (lift (enter_function (function_of f strict) env this call))
    (lift (enter_function (function_of (bare f) strict) env this call))
enter_alike f strict env this call =
    second_is (ap (λ p. lift p) (enter_same f strict env this call))
    (itself (lift (enter_function (function_of f strict) env this call)))

leave_alike : (f : Func) (strict : Bool) (how : Completion)
    → Alike (leave_function (function_of f strict) how) (leave_function (function_of (bare f) strict) how)
leave_alike (tree.function m x params b s) strict how = record { same = refl }

module _ (table table' : FunctionTable) (same : (i : Inner) → callee_of table i ≡ callee_of table' i) where
  pub body_alike : (b : Code) (c : Context) → Alike (run_body table b c) (run_body table' (bare b) c)
  body_alike (tree.body strict fs l) c = execute_all_alike table table' same l c

  run_alike : (f : Func) (strict : Bool) (this : Value) (call : Call) (c : Context)
      → Alike (run_function table (function_of f strict) this call c)
      (run_function table' (function_of (bare f) strict) this call c)
  run_alike (tree.function m x params b s) strict this call c =
      perform_alike (then_alike (body_alike b c) (λ how. leave_alike (tree.function m x params b s) strict how))

  call_alike : (f : Func) (strict : Bool) (env : ℕ) (call : Call)
      → Alike (call_script table (function_of f strict) env call)
      (call_script table' (function_of (bare f) strict) env call)
  call_alike f strict env call =
      lift_alike (this_within strict call.this) (λ this. bind (enter_alike f strict env this call) (λ c.
      run_alike f strict this call c))

  construct_alike : (f : Func) (strict : Bool) (env : ℕ) (call : Call)
      → Alike (construct_script table (function_of f strict) env call)
      (construct_script table' (function_of (bare f) strict) env call)
  construct_alike f strict env call =
      lift_alike (new_instance call.callee) (λ object.
      bind (call_alike f strict env (record call { this = object })) (λ v. record { same = refl }))

  pub script_alike : (f : ScriptFunction) (env : ℕ) (call : Call)
      → Alike (begin_script table f env call) (begin_script table' (bare_function f) env call)
  script_alike f env call =
      pick call.by_new (construct_alike f.func f.strict env call) (call_alike f.func f.strict env call)
