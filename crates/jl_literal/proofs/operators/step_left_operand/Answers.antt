use Rattle.std.proofs.lemmas.Result.{IfOk-weaker}
use Rattle.jl_state.proofs.Leaves.{falls_supplied}
use Rattle.jl_literal.proofs.Deciding.{takes_leaf, takes_right}
use Rattle.jl_literal.proofs.operators.step_left_operand.Goals as goal

pub returns-in-Some-clause-refines : goal.returns-in-Some-clause-refines
returns-in-Some-clause-refines c =
    IfOk-weaker _ _ _ (λ a refines. takes_leaf c.args.state.now c.args.right _ c.args.here c.args.v _ _ c.args.op _ _
    c.deref.ensures
    ((rw c.in-Some.is at c.in_ok-found.ensures.supplies) _ c.take_step.ensures.took c.take_step.ensures.left) refines)
    c.step_right_operand.ensures.refines

pub returns-in-Some-clause-bounded : goal.returns-in-Some-clause-bounded
returns-in-Some-clause-bounded c =
    falls_supplied _ _ c.args.state.now _ _ _ c.take_step.ensures.less c.step_right_operand.ensures.bounded

pub returns-in-None-clause-refines : goal.returns-in-None-clause-refines
returns-in-None-clause-refines c =
    IfOk-weaker _ _ _ (λ a refines. takes_right c.args.state.now c.args.right _ c.args.here c.args.v _ _ c.args.op
    c.deref-in-None.ensures refines) c.evaluate.ensures.refines
