-- What the code's own types stand for in the definitions of the language.
use Rattle.std.specs.Prelude.{[], false, map, true, ◌∷◌, Bool, List, None, Option, Some}
use Rattle.jl_op.specs.UnaryKinds.{update_kind}
use Rattle.jl_meaning.specs.Conversions.{no_hint, number_hint, string_hint}
use Rattle.jl_meaning.specs.Conversions as conversions
use Rattle.jl_meaning.specs.FunctionObjects as functions
use Rattle.jl_meaning.specs.FunctionObjects.{FunctionTable}
use Rattle.jl_meaning.specs.Noting.{emits, performs, Noting}
use Rattle.jl_meaning.specs.Parts.{Context, Running}
use Rattle.jl_meaning.specs.Parts as parts
use Rattle.jl_meaning.specs.forms.HookCalls as hooks
use Rattle.jl_meaning.specs.forms.Hooks as pairs
use Rattle.jl_ast.specs.View.{view_function}
use Rattle.jl_state.specs.Trees.{plain}
use Rattle.jl_state.specs.declared.act.Invocation.{Invocation}
use Rattle.jl_state.specs.declared.calls.Call.{Call}
use Rattle.jl_state.specs.declared.frame.Here.{Here}
use Rattle.jl_state.specs.declared.algorithm_frame.Hint.{Hint}
use Rattle.jl_state.specs.declared.algorithm_frame.Hint.TheVariants as hint
use Rattle.jl_state.specs.declared.statement_frame.Visit.{Visit}
use Rattle.jl_state.specs.declared.hook.Hook.{Hook}
use Rattle.jl_state.specs.declared.hook.Hook.TheVariants as hook
use Rattle.jl_state.specs.declared.hook.Opener.{Opener}
use Rattle.jl_state.specs.declared.hook.Opener.TheVariants as opener
use Rattle.jl_state.specs.declared.hook.Pending.{Pending}
use Rattle.jl_state.specs.declared.hook.Pending.TheVariants as pending
use Rattle.jl_state.specs.declared.script_function.ScriptFunction.{ScriptFunction}

abbrev pub running : List Call → Option Running
running [] = None
running (c ∷ calls) = Some (record { function = c.function; this = c.this; args = c.args; by_new = c.by_new })

abbrev pub without_innermost : List Call → List Call
without_innermost [] = []
without_innermost (c ∷ calls) = calls

-- where code runs, in the innermost of the calls
abbrev pub context_of : List Call → Here → Context
context_of calls here = record { env = here.env; strict = here.strict; call = running calls }

abbrev pub call_of : Invocation → parts.Call
call_of c = record { callee = c.callee; this = c.this; args = c.args; by_new = c.by_new }

abbrev pub hint_of : Hint → conversions.Hint
hint_of hint.None = no_hint
hint_of hint.Number = number_hint
hint_of hint.Text = string_hint

abbrev pub noting : (emitting : Bool) → Noting
noting true = emits
noting false = performs

abbrev pub visit_of : Visit → parts.Visit
visit_of v = record { holder = v.holder; name = v.name; serial = v.serial }

abbrev pub hook_of : Hook → hooks.Hook
hook_of hook.EntersScript = hooks.enters_script
hook_of hook.ExitsScript = hooks.exits_script
hook_of hook.EntersFunction = hooks.enters_function
hook_of hook.ExitsFunction = hooks.exits_function
hook_of hook.Makes = hooks.makes
hook_of (hook.Reads x) = hooks.reads x
hook_of (hook.Writes x) = hooks.writes x
hook_of (hook.Types x) = hooks.types x
hook_of (hook.Catches x) = hooks.catches x
hook_of hook.Tests = hooks.tests
hook_of hook.Visits = hooks.visits
hook_of hook.Returns = hooks.returns
hook_of hook.Throws = hooks.throws_value
hook_of (hook.Binary o) = hooks.binary_of o
hook_of (hook.Unary o) = hooks.unary_of o
hook_of hook.Gets = hooks.gets
hook_of hook.Deletes = hooks.deletes
hook_of (hook.Updates up) = hooks.updates (update_kind up)

abbrev pub opener_of : Opener → hooks.Opener
opener_of opener.Put = hooks.opens_put
opener_of (opener.Assign o) = hooks.opens_assign o
opener_of opener.Call = hooks.opens_call
opener_of opener.New = hooks.opens_new
opener_of opener.Method = hooks.opens_method

abbrev pub pending_of : Pending → pairs.Pending
pending_of (pending.Put id base x) = pairs.pending_put id.id base x
pending_of (pending.Assign id o base x held) = pairs.pending_assign id.id o base x held
pending_of (pending.Call id callee this) = pairs.pending_call id.pre callee this
pending_of (pending.New id callee) = pairs.pending_new id.pre callee

-- the functions of the script by number
abbrev pub function_of : ScriptFunction → functions.ScriptFunction
function_of f = record { func = plain (view_function f.function.now); strict = f.is_strict }

abbrev pub table_of : List ScriptFunction → FunctionTable
table_of l = map function_of l
