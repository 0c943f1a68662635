use Rattle.jl_state.specs.declared.value_frame.ValueFrame.TheVariants as waiting
use Rattle.jl_expression.proofs.Leaves.{goes_on}
use Rattle.jl_expression.proofs.operands.begin_operand.Goals as goal

pub returns-in-Some-clause-refines : goal.returns-in-Some-clause-refines
returns-in-Some-clause-refines c =
    goes_on c.args.state.now _ c.args.operand.now c.args.here c.in_ok-v.ensures.supplies c.in-Some.is
    c.take_step.ensures.took c.take_step.ensures.left (waiting.Operand c.args.op) _ _ c.step_operand.ensures.refines
