-- Functions of the script: entered, run, called and used as constructors (10.4.3, 13.2.1, 13.2.2).
use Rattle.std.specs.Prelude.{codes, false, if◌then◌else◌, length, true, ◌+◌, Bool, Some, ℕ}
use Rattle.jl_ast.specs.Table.{table}
use Rattle.jl_ast.specs.Table as functions
use Rattle.jl_ast.specs.Tree as tree
use Rattle.jl_value.specs.Tests.{is_nothing, is_object}
use Rattle.jl_value.specs.declared.ending.Completion.{Completion}
use Rattle.jl_value.specs.declared.ending.Completion.TheVariants as completion
use Rattle.jl_value.specs.declared.ending.Fault.TheVariants.{Misuse}
use Rattle.jl_value.specs.declared.object.Class.TheVariants as class
use Rattle.jl_value.specs.declared.object.ObjId.{ObjId}
use Rattle.jl_value.specs.declared.value.Value.{Value}
use Rattle.jl_value.specs.declared.value.Value.TheVariants as value
use Rattle.jl_heap.specs.Describe.{seen_of}
use Rattle.jl_heap.specs.declared.inner.Inner.TheVariants as inner
use Rattle.jl_op.specs.declared.op.Op.TheVariants as op
use Rattle.jl_effects.specs.Effects.{and_then, Fail}
use Rattle.jl_meaning.specs.Changes.{NewEnvironment}
use Rattle.jl_meaning.specs.Conversions.{to_object}
use Rattle.jl_meaning.specs.DeclarationBinding.{declare_body}
use Rattle.jl_meaning.specs.FunctionObjects.{function_body, function_id, function_params, FunctionTable}
use Rattle.jl_meaning.specs.FunctionObjects.{ScriptFunction}
use Rattle.jl_meaning.specs.Getting.{get}
use Rattle.jl_meaning.specs.Intrinsics.{global_object, object_prototype}
use Rattle.jl_meaning.specs.Noting.{note, performs}
use Rattle.jl_meaning.specs.Parts.{call, change_store, give, lift, look, new_object, throw, ◌>>=◌, Algorithm, Answer}
use Rattle.jl_meaning.specs.Parts.{Call, Code, Context, Part}
use Rattle.jl_meaning.specs.Statements.{execute_all}
use Rattle.jl_meaning.specs.Store.{next_environment}

-- what `this` becomes in a function that isn't strict (10.4.3)
abbrev pub coerced_this : Value → Algorithm Value
coerced_this v =
    if is_nothing v then give (value.Obj global_object)
    else (do
      id ← to_object v
      give (value.Obj id))

unfoldable pub this_within : (strict : Bool) → Value → Algorithm Value
this_within true v = give v
this_within false v = coerced_this v

-- where the code of a called function runs, in an environment
abbrev pub function_context : ScriptFunction → (env : ℕ) → (this : Value) → Call → Context
function_context f env this call = record {
  env = env;
  strict = f.strict;
  call = Some (record {
    function = functions.number_of f.func;
    this = this;
    args = length call.args;
    by_new =
        call.by_new;
  });
}

-- Entering Function Code (10.4.3) with this `this`: a new environment, with what the function declares
unfoldable pub enter_function : ScriptFunction → (env : ℕ) → (this : Value) → Call → Algorithm Context
enter_function f env this call = do
  store ← look
  _ ← change_store (NewEnvironment env)
  _ ← declare_body (function_body f.func) f.strict call.callee (function_params f.func) call.args
      (function_context f (next_environment store) this call)
  give (function_context f (next_environment store) this call)

-- what a function gives when its body has completed so; no body completes with a Break or a Continue (13.2.1)
abbrev pub result_of : Completion → Part (Answer Value)
result_of completion.Normal = give value.Undefined
result_of (completion.Return v) = give v
result_of (completion.Throw v) = throw v
result_of _ = Fail Misuse

-- the statements of a body
abbrev pub run_body : FunctionTable → Code → Context → Part Completion
run_body table (tree.body s fs l) c = execute_all table l c

-- a function is left, however its body has completed
abbrev pub leave_function : ScriptFunction → Completion → Part (Answer Value)
leave_function f how = do
  _ ← note performs (function_id f.func + 1) (λ heap. op.FunctionExit (functions.number_of f.func))
  result_of how

-- a function that has been entered runs (13.2.1, steps 2 to 6)
abbrev pub run_function : FunctionTable → ScriptFunction → (this : Value) → Call → Context → Part (Answer Value)
run_function table f this call c = do
  _ ← note performs (function_id f.func) (λ heap.
      op.FunctionEnter (functions.number_of f.func) (seen_of heap this) (length call.args) call.by_new)
  and_then (run_body table (function_body f.func) c) (leave_function f)

-- [[Call]] (13.2.1) of a function whose outer environment is this
abbrev pub call_script : FunctionTable → ScriptFunction → (env : ℕ) → Call → Part (Answer Value)
call_script table f env call = do
  this ← lift (this_within f.strict call.this)
  c ← lift (enter_function f env this call)
  run_function table f this call c

-- the prototype of a new object (13.2.2, steps 5 to 7)
abbrev pub prototype_for : Value → ObjId
prototype_for (value.Obj id) = id
prototype_for v = object_prototype

-- the new object that a construction begins with (13.2.2, steps 1 to 7)
unfoldable pub new_instance : (callee : ObjId) → Algorithm Value
new_instance callee = do
  proto ← get (value.Obj callee) (codes "prototype")
  id ← new_object class.Object (Some (prototype_for proto)) inner.Nothing
  give (value.Obj id)

-- [[Construct]] (13.2.2): the new object, unless the call gives another
abbrev pub construct_script : FunctionTable → ScriptFunction → (env : ℕ) → Call → Part (Answer Value)
construct_script table f env call = do
  object ← lift (new_instance call.callee)
  v ← call_script table f env (record call { this = object })
  give (if is_object v then v else object)

abbrev pub begin_script : FunctionTable → ScriptFunction → (env : ℕ) → Call → Part (Answer Value)
begin_script table f env call =
    if call.by_new then construct_script table f env call else call_script table f env call
