-- How calls of hooks look, as the code has it.
use Rattle.std.specs.Prelude.{option_map, List, Option, Some, ℕ}
use Rattle.jl_meaning.specs.forms.HookCalls.{assignment_operators, binary_among, binary_named, hook, no_hook, opener}
use Rattle.jl_meaning.specs.forms.HookCalls.{plain, unary_among, unary_kinds, update_kinds, worded, Hook, Opener, Shape}
use Rattle.jl_meaning.specs.forms.HookCalls as hooks
use Rattle.jl_state.specs.Words.{hook_of, opener_of}
use Rattle.jl_hook.specs.declared.hook_names.CalleeForm.{CalleeForm}
use Rattle.jl_hook.specs.declared.hook_names.CalleeForm.TheVariants as callee
use Rattle.jl_hook.specs.declared.hook_names.HookShape.{HookShape}
use Rattle.jl_hook.specs.declared.hook_names.HookShape.TheVariants as shape
use Rattle.jl_hook.specs.declared.hook_names.OpenerShape.{OpenerShape}
use Rattle.jl_hook.specs.declared.hook_names.OpenerShape.TheVariants as opening
use Rattle.jl_hook.specs.declared.hook_names.PlainHook.{PlainHook}
use Rattle.jl_hook.specs.declared.hook_names.PlainHook.TheVariants as bare
use Rattle.jl_hook.specs.declared.hook_names.WordedHook.{WordedHook}
use Rattle.jl_hook.specs.declared.hook_names.WordedHook.TheVariants as of_word
use Rattle.jl_hook.specs.declared.hook_calls.HookCall.{HookCall}
use Rattle.jl_hook.specs.declared.hook_calls.OpenerCall.{OpenerCall}

abbrev pub plain_hook : PlainHook → Hook
plain_hook bare.EntersScript = hooks.enters_script
plain_hook bare.ExitsScript = hooks.exits_script
plain_hook bare.EntersFunction = hooks.enters_function
plain_hook bare.ExitsFunction = hooks.exits_function
plain_hook bare.Makes = hooks.makes
plain_hook bare.Tests = hooks.tests
plain_hook bare.Visits = hooks.visits
plain_hook bare.Returns = hooks.returns
plain_hook bare.Throws = hooks.throws_value
plain_hook bare.Gets = hooks.gets
plain_hook bare.Deletes = hooks.deletes

-- a hook by the string that says what it is asked for
abbrev pub worded_hook : WordedHook → List ℕ → Option Hook
worded_hook of_word.Reads x = Some (hooks.reads x)
worded_hook of_word.Writes x = Some (hooks.writes x)
worded_hook of_word.Types x = Some (hooks.types x)
worded_hook of_word.Catches x = Some (hooks.catches x)
worded_hook of_word.Binary sign = option_map hooks.binary_of (binary_named sign)
worded_hook of_word.Unary sign = option_map hooks.unary_of (unary_among unary_kinds sign)
worded_hook of_word.Updates sign = option_map hooks.updates (unary_among update_kinds sign)

abbrev pub hook_shape : HookShape → Shape Hook
hook_shape (shape.Plain h n) = plain (plain_hook h) n
hook_shape (shape.Worded h n) = worded (worded_hook h) n

abbrev pub opener_shape : OpenerShape → Shape Opener
opener_shape (opening.Plain o n) = plain (opener_of o) n
opener_shape (opening.Assign n) =
    worded (λ sign. option_map hooks.opens_assign (binary_among assignment_operators sign)) n

abbrev pub form_seen : CalleeForm → hooks.CalleeForm
form_seen (callee.Hook s) = hook (hook_shape s)
form_seen (callee.Opener s) = opener (opener_shape s)
form_seen callee.NoHook = no_hook

abbrev pub hook_call_seen : HookCall → hooks.HookCall Hook
hook_call_seen h = record { id = h.id.id; asked = hook_of h.hook; literals = h.literals }

abbrev pub opener_call_seen : OpenerCall → hooks.HookCall Opener
opener_call_seen h = record { id = h.id.id; asked = opener_of h.opener; literals = h.literals }
