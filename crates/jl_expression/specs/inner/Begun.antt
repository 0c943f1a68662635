-- What an expression does after the step that begins it, and what its parts do.
use Rattle.std.specs.Option.{option_map_or}
use Rattle.std.specs.Prelude.{[], List, None, Option, Some, ℕ}
use Rattle.jl_ast.specs.Tree.{Tree}
use Rattle.jl_ast.specs.Tree as tree
use Rattle.jl_ast.specs.declared.ops.BinOp.{BinOp}
use Rattle.jl_value.specs.declared.object.ObjId.{ObjId}
use Rattle.jl_value.specs.declared.value.Value.{Value}
use Rattle.jl_value.specs.declared.value.Value.TheVariants as value
use Rattle.jl_effects.specs.Effects.{Step}
use Rattle.jl_meaning.specs.Expressions.{evaluate, evaluate_all, evaluate_call}
use Rattle.jl_meaning.specs.FunctionObjects.{FunctionTable}
use Rattle.jl_meaning.specs.Intrinsics.{global_object}
use Rattle.jl_meaning.specs.Parts.{◌>>=◌, Answer, Context, Expr, Exprs, Part, Running}
use Rattle.jl_meaning.specs.forms.HookCalls.{HookCall, Opener}
use Rattle.jl_meaning.specs.forms.Hooks.{call_pair, Arguments}
use Rattle.jl_meaning.specs.forms.Names.{assign_name, compute_name}
use Rattle.jl_state.specs.Words.{running}
use Rattle.jl_state.specs.declared.calls.Call.{Call}

abbrev pub after_step : {A : Type 0} → Part A → Part A
after_step (Step p) = p
after_step p = p

abbrev pub begin : FunctionTable → Expr → Context → Part (Answer Value)
begin table e c = after_step (evaluate table e c)

-- the arguments of a call
abbrev pub arguments : FunctionTable → Exprs → Context → Arguments
arguments table l c = λ literals. evaluate_all table literals [] l c

-- a call
abbrev pub call_expression : FunctionTable → (callee : Expr) → Exprs → Context → Part (Answer Value)
call_expression table f l c = evaluate_call table f l (evaluate table f c) (arguments table l c) 0 c

-- a pair of calls of a hook after the step with which it begins
abbrev pub pair_begun : FunctionTable → Context → Option (HookCall Opener) → (first : Arguments)
    → (second : Part (Answer (List Value))) → Part (Answer Value)
pair_begun table c call first second = after_step (call_pair table c call first second)

-- an assignment to a name (11.13.1, 11.13.2)
abbrev pub assigned_name : Option BinOp → Context → tree.Text → (e : Part (Answer Value)) → Part (Answer Value)
assigned_name None c x e = assign_name 0 c x e
assigned_name (Some o) c x e = compute_name 0 c x o e

-- what `this` is in the innermost of the calls (10.3, 11.1.1)
abbrev pub this_in : List Call → Value
this_in calls = option_map_or (λ (r : Running). r.this) (running calls) (value.Obj global_object)
