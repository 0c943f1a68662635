use Rattle.jl_literal.proofs.Deciding.{takes_first, takes_second}
use Rattle.jl_literal.proofs.operators.step_conditional.Goals as goal

pub returns-then-to_boolean-clause-refines : goal.returns-then-to_boolean-clause-refines
returns-then-to_boolean-clause-refines c =
    takes_first c.args.state.now c.args.first _ c.args.here c.args.v _ _ c.args.second c.if-to_boolean.ensures
    c.deref.ensures (c.value_of.ensures.refines c.args.state.now)

pub returns-clause-refines : goal.returns-clause-refines
returns-clause-refines c =
    takes_second c.args.state.now c.args.second _ c.args.here c.args.v _ _ c.args.first c.if-to_boolean.ensures
    c.deref-else-to_boolean.ensures (c.value_of-else-to_boolean.ensures.refines c.args.state.now)
