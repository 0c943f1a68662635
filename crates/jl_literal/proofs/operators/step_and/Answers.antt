use Rattle.jl_literal.proofs.Deciding.{and_goes_on}
use Rattle.jl_literal.proofs.operators.step_and.Goals as goal

pub returns-then-to_boolean-clause-refines : goal.returns-then-to_boolean-clause-refines
returns-then-to_boolean-clause-refines c =
    and_goes_on c.args.state.now c.args.right _ c.args.here c.args.v _ _ c.if-to_boolean.ensures c.deref.ensures
    (c.value_of.ensures.refines c.args.state.now)
