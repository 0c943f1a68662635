use Rattle.std.proofs.Common.{◌∙◌, ap}
use Rattle.jl_meaning.specs.forms.HookCalls.{form_named, hooks, openers, shape_named}
use Rattle.jl_hook.specs.HookForms.{form_seen}
use Rattle.jl_hook.proofs.HookTable.{table_is}
use Rattle.jl_hook.proofs.hook_names.form_named.Goals as goal

pub returns : goal.returns
returns c =
    ap form_seen c.form_in.ensures
    ∙ table_is c.units.result.now
    ∙ ap (λ x. form_named (shape_named x hooks) (shape_named x openers)) c.units.ensures.same
