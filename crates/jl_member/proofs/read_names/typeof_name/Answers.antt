use Rattle.std.proofs.Common.{sym, ◌∙◌}
use Rattle.std.proofs.lemmas.Result.{IfOk-weaker}
use Rattle.jl_meaning.specs.forms.Names.{typeof_name}
use Rattle.jl_member.proofs.Names.{misuses, types}
use Rattle.jl_member.proofs.read_names.typeof_name.Goals as goal

pub returns-then-is_hooks-clause-refines : goal.returns-then-is_hooks-clause-refines
unfolding typeof_name
returns-then-is_hooks-clause-refines c =
    misuses c.args.state.now c.args.name.now _ (sym c.is_hooks.ensures ∙ c.if-is_hooks.true)

pub returns-clause-refines : goal.returns-clause-refines
returns-clause-refines c =
    IfOk-weaker _ _ _ (λ a refines. types c.args.state.now c.args.here c.args.name.now _ _
    (sym c.is_hooks.ensures ∙ c.if-is_hooks.false) refines) c.type_of_name.ensures.refines
