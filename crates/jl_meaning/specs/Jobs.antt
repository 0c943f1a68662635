-- What the jobs of a script do: calls of all kinds of functions, and turns of loops.
use Rattle.std.specs.Prelude.{codes, false, slice_get, true, ◌++◌, Bool, List, None, Option, Some, ℕ}
use Rattle.jl_ast.specs.Table.{table}
use Rattle.jl_value.specs.declared.ending.Completion.{Completion}
use Rattle.jl_value.specs.declared.object.ObjId.{ObjId}
use Rattle.jl_value.specs.declared.value.Value.{Value}
use Rattle.jl_value.specs.declared.value.Value.TheVariants as value
use Rattle.jl_heap.specs.Objects.{object_at, Objects}
use Rattle.jl_heap.specs.declared.inner.Inner.{Inner}
use Rattle.jl_heap.specs.declared.inner.Inner.TheVariants as inner
use Rattle.jl_effects.specs.Effects.{and_then, End, Look}
use Rattle.jl_meaning.specs.Errors.{throw_type_error}
use Rattle.jl_meaning.specs.FunctionObjects.{has_construct, FunctionTable, ScriptFunction}
use Rattle.jl_meaning.specs.Parts.{begin_call, call, completion_of, give, lift, Algorithm, Answer, Call, CallOf, Job}
use Rattle.jl_meaning.specs.Parts.{Part, TurnOf}
use Rattle.jl_meaning.specs.Statements.{turn}
use Rattle.jl_meaning.specs.builtins.Function.{names_of}
use Rattle.jl_meaning.specs.builtins.Table.{builtin_algorithm}
use Rattle.jl_meaning.specs.forms.Functions.{begin_script}

-- a function that `bind` made calls its target, or constructs by it (15.3.4.5.1, 15.3.4.5.2)
unfoldable pub call_bound : (constructs : Bool) → (target : ObjId) → (this : Value) → List Value → (by_new : Bool)
    → Algorithm Value
call_bound false target this args true = throw_type_error (codes "not a constructor")
call_bound constructs target this args by_new =
    begin_call (λ c. c) (record { callee = target; this = this; args = args; by_new = by_new })

-- a number that no function has does nothing; no run meets it
abbrev pub begin_known : FunctionTable → Option ScriptFunction → (env : ℕ) → Call → Part (Answer Value)
begin_known table (Some f) env call = begin_script table f env call
begin_known table None env call = give value.Undefined

-- a call of an object with this inner part
abbrev pub call_inside : FunctionTable → Objects → Call → Inner → Part (Answer Value)
call_inside table heap call (inner.Script number env) = begin_known table (slice_get table number) env call
call_inside table heap call (inner.Native b) = lift (builtin_algorithm (names_of table) b call)
call_inside table heap call (inner.Bound target this args) =
    lift (call_bound (has_construct (object_at heap target.0).inner) target this (args ++ call.args) call.by_new)
call_inside table heap call i = give value.Undefined

-- what a job does
abbrev pub job : FunctionTable → Job → Part Completion
job table (CallOf call) = Look (λ store.
    and_then (call_inside table store.heap call (object_at store.heap call.callee.0).inner)
    (λ a. End (completion_of a)))
job table (TurnOf t) = turn table t
