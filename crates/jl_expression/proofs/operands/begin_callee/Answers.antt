use Rattle.jl_value.specs.declared.value.Value.TheVariants as value
use Rattle.jl_state.specs.declared.value_frame.ValueFrame.TheVariants as waiting
use Rattle.jl_expression.proofs.Leaves.{goes_on}
use Rattle.jl_expression.proofs.operands.begin_callee.Goals as goal

pub returns-in-Some-clause-refines : goal.returns-in-Some-clause-refines
returns-in-Some-clause-refines c =
    goes_on c.args.state.now _ c.args.callee.now c.args.here c.in_ok-v.ensures.supplies c.in-Some.is
    c.take_step.ensures.took
    c.take_step.ensures.left (waiting.Callee value.Undefined c.args.by_new c.args.args c.args.here) _ _
    c.step_callee.ensures.refines
