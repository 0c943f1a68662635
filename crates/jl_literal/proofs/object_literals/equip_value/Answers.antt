use Rattle.std.proofs.lemmas.Result.{IfOk-weaker}
use Rattle.jl_state.proofs.Leaves.{falls_supplied}
use Rattle.jl_literal.proofs.Entries.{leaf_entry}
use Rattle.jl_literal.proofs.object_literals.equip_value.Goals as goal

pub returns-in-Some-clause-refines : goal.returns-in-Some-clause-refines
returns-in-Some-clause-refines c =
    IfOk-weaker _ _ _ (λ a refines. leaf_entry c.args.state.now _ _ _ c.args.object c.args.key.now c.args.e.now
    c.args.rest c.args.here _ _ _ c.take_step.ensures.left c.plain_change-change.ensures
    ((rw c.in-Some.is at c.in_ok-found.ensures.supplies) _ c.take_step.ensures.took c.take_step.ensures.left) refines)
    c.define_entry.ensures.refines

pub returns-in-Some-clause-bounded : goal.returns-in-Some-clause-bounded
returns-in-Some-clause-bounded c =
    falls_supplied _ _ c.args.state.now _ _ _ c.take_step.ensures.less c.define_entry.ensures.bounded
