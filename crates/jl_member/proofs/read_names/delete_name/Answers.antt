use Rattle.std.proofs.Common.{sym, ◌∙◌}
use Rattle.jl_meaning.specs.forms.Names.{delete_identifier}
use Rattle.jl_member.proofs.Names.{deletes, misuses, throws_deleting}
use Rattle.jl_member.proofs.read_names.delete_name.Goals as goal

pub returns-then-is_hooks-clause-refines : goal.returns-then-is_hooks-clause-refines
unfolding delete_identifier
returns-then-is_hooks-clause-refines c =
    misuses c.args.state.now c.args.name.now _ (sym c.is_hooks.ensures ∙ c.if-is_hooks.true)

pub returns-in-Gives-clause-refines : goal.returns-in-Gives-clause-refines
returns-in-Gives-clause-refines c =
    deletes _ _ c.args.here c.args.name.now _ _
    (sym c.is_hooks.ensures ∙ c.if-is_hooks.false) c.delete_name.ensures.stored
    c.in_ok-free.ensures.comes c.in-Gives.is

pub returns-in-Throws-clause-refines : goal.returns-in-Throws-clause-refines
returns-in-Throws-clause-refines c =
    throws_deleting _ _ c.args.here c.args.name.now _ _
    (sym c.is_hooks.ensures ∙ c.if-is_hooks.false) c.delete_name.ensures.stored
    c.in_ok-free.ensures.comes c.in-Throws.is
