use Rattle.jl_state.specs.declared.value_frame.ValueFrame.TheVariants as waiting
use Rattle.jl_expression.proofs.Leaves.{goes_on}
use Rattle.jl_expression.proofs.operands.begin_index.Goals as goal

pub returns-in-Some-clause-refines : goal.returns-in-Some-clause-refines
returns-in-Some-clause-refines c =
    goes_on c.args.state.now _ c.args.object.now.value c.args.here c.in_ok-v.ensures.supplies c.in-Some.is
    c.take_step.ensures.took
    c.take_step.ensures.left (waiting.IndexBase c.args.key c.args.here) _ _ c.step_index_base.ensures.refines
