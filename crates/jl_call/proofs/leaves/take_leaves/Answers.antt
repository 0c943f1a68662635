use Rattle.jl_state.specs.Trees.{items_left}
use Rattle.jl_call.proofs.Takings.{takes_next, takes_none}
use Rattle.jl_call.proofs.leaves.take_leaves.Goals as goal

pub loop-e-init : goal.loop-e-init
loop-e-init c = takes_none c.args.state.now c.args.here c.args.values.now (items_left c.args.rest)

pub loop-e-preserved : goal.loop-e-preserved
loop-e-preserved c =
    takes_next c.args.state.now c.args.here c.args.values.now (items_left c.args.rest) c.loop-e.state _ c.loop-e.values
    _ (items_left c.loop-e.left) _ c.in-Some.e.now _ _ c.loop-e.invariant c.in-Some.ensures
    c.in_ok-v.ensures.supplies c.in-Some-2.is c.take_step.ensures.took c.take_step.ensures.left
    c.take_step.ensures.less c.in_ok-push-in-Some-2.ensures.ok
