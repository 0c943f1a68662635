use Rattle.jl_literal.proofs.Deciding.{or_goes_on}
use Rattle.jl_literal.proofs.operators.step_or.Goals as goal

pub returns-clause-refines : goal.returns-clause-refines
returns-clause-refines c =
    or_goes_on c.args.state.now c.args.right _ c.args.here c.args.v _ _ c.if-to_boolean.ensures c.deref.ensures
    (c.value_of.ensures.refines c.args.state.now)
