-- Functions of the script, by their parts.
use Rattle.std.specs.Prelude.{None, Option, Some, ℕ}
use Rattle.jl_ast.specs.Table.{table}
use Rattle.jl_value.specs.declared.value.Value.{Value}
use Rattle.jl_value.specs.declared.value.Value.TheVariants as value
use Rattle.jl_effects.specs.Effects.{and_then}
use Rattle.jl_meaning.specs.Conversions.{to_object}
use Rattle.jl_meaning.specs.FunctionObjects.{function_body, FunctionTable, ScriptFunction}
use Rattle.jl_meaning.specs.Parts.{give, ◌>>=◌, Algorithm, Answer, Call, Context, Func, Part}
use Rattle.jl_meaning.specs.forms.Functions.{call_script, construct_script, result_of, run_body}

-- ToObject of `this`, as a value (10.4.3, step 3)
abbrev pub this_as_object : Value → Algorithm Value
this_as_object v = do
  id ← to_object v
  give (value.Obj id)

-- the body of a function, and what the function gives when it has completed (13.2.1)
abbrev pub body_result : FunctionTable → Func → Context → Part (Answer Value)
body_result table f c = and_then (run_body table (function_body f) c) result_of

-- [[Call]] of a function that has a number, or of none, which gives undefined
abbrev pub call_if_known : FunctionTable → Option ScriptFunction → (env : ℕ) → Call → Part (Answer Value)
call_if_known table None env call = give value.Undefined
call_if_known table (Some f) env call = call_script table f env call

-- [[Construct]] by it
abbrev pub construct_if_known : FunctionTable → Option ScriptFunction → (env : ℕ) → Call → Part (Answer Value)
construct_if_known table None env call = give value.Undefined
construct_if_known table (Some f) env call = construct_script table f env call
