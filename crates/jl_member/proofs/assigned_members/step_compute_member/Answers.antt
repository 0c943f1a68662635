use Rattle.std.proofs.lemmas.Result.{IfOk-weaker}
use Rattle.jl_state.specs.declared.value_frame.ValueFrame.TheVariants as waiting
use Rattle.jl_state.proofs.Leaves.{falls_supplied, supplied_value}
use Rattle.jl_member.proofs.Operands.{evaluates_for_member}
use Rattle.jl_member.proofs.assigned_members.step_compute_member.Goals as goal

pub returns-in-Some-clause-refines : goal.returns-in-Some-clause-refines
returns-in-Some-clause-refines c =
    IfOk-weaker _ _ _ (λ a refines. evaluates_for_member c.args.state.now c.args.value c.deref.result.now c.args.here
    c.args.v _ _ c.args.base c.args.name c.args.op c.deref.ensures (supplied_value c.args.state.now _
    c.take_step.ensures.left _ _ ((rw c.in-Some.is at c.in_ok-found.ensures.supplies) _ c.take_step.ensures.took
    c.take_step.ensures.left) (waiting.ComputeMemberOperand c.args.base c.args.name c.args.op c.args.v
    c.args.here.strict) _ _ refines)) c.step_compute_member_operand.ensures.refines

pub returns-in-Some-clause-bounded : goal.returns-in-Some-clause-bounded
returns-in-Some-clause-bounded c =
    falls_supplied 124 120 c.args.state.now _ _ _ c.take_step.ensures.less c.step_compute_member_operand.ensures.bounded

pub returns-in-None-clause-refines : goal.returns-in-None-clause-refines
returns-in-None-clause-refines c =
    IfOk-weaker _ _ _ (λ a refines. evaluates_for_member c.args.state.now c.args.value c.deref-in-None.result.now
    c.args.here
    c.args.v _ _ c.args.base c.args.name c.args.op c.deref-in-None.ensures refines) c.evaluate.ensures.refines
