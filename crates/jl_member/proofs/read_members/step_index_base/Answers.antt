use Rattle.std.proofs.lemmas.Result.{IfOk-weaker}
use Rattle.jl_state.specs.declared.value_frame.ValueFrame.TheVariants as waiting
use Rattle.jl_state.proofs.Leaves.{falls_supplied, supplied_value}
use Rattle.jl_member.proofs.Operands.{evaluates_key}
use Rattle.jl_member.proofs.read_members.step_index_base.Goals as goal

pub returns-in-Some-clause-refines : goal.returns-in-Some-clause-refines
returns-in-Some-clause-refines c =
    IfOk-weaker _ _ _ (λ a refines. evaluates_key c.args.state.now c.args.key c.deref.result.now c.args.here c.args.v _
    _
    c.deref.ensures (supplied_value c.args.state.now _ c.take_step.ensures.left _ _ ((rw c.in-Some.is at
    c.in_ok-found.ensures.supplies) _ c.take_step.ensures.took c.take_step.ensures.left) (waiting.IndexKey c.args.v) _ _
    refines)) c.read_member.ensures.refines

pub returns-in-Some-clause-bounded : goal.returns-in-Some-clause-bounded
returns-in-Some-clause-bounded c =
    falls_supplied 44 38 c.args.state.now _ _ _ c.take_step.ensures.less c.read_member.ensures.bounded

pub returns-in-None-clause-refines : goal.returns-in-None-clause-refines
returns-in-None-clause-refines c =
    IfOk-weaker _ _ _ (λ a refines. evaluates_key c.args.state.now c.args.key c.deref-in-None.result.now c.args.here
    c.args.v _
    _ c.deref-in-None.ensures refines) c.evaluate.ensures.refines
