use Rattle.std.proofs.Common.{sym, ◌∙◌}
use Rattle.std.proofs.lemmas.Result.{IfOk-weaker}
use Rattle.jl_meaning.specs.forms.Names.{read_name}
use Rattle.jl_member.proofs.Names.{misuses, reads}
use Rattle.jl_member.proofs.read_names.read_name.Goals as goal

pub returns-then-is_hooks-clause-refines : goal.returns-then-is_hooks-clause-refines
unfolding read_name
returns-then-is_hooks-clause-refines c =
    misuses c.args.state.now c.args.name.now _ (sym c.is_hooks.ensures ∙ c.if-is_hooks.true)

pub returns-clause-refines : goal.returns-clause-refines
returns-clause-refines c =
    IfOk-weaker _ _ _ (λ a refines. reads c.args.state.now c.args.here c.args.name.now _ _
    (sym c.is_hooks.ensures ∙ c.if-is_hooks.false) refines) c.get_name.ensures.refines
