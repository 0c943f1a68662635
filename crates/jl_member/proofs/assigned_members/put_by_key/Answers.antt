use Rattle.std.proofs.Common.{false, refl}
use Rattle.std.proofs.lemmas.Result.{IfOk-weaker}
use Rattle.jl_state.specs.declared.value_frame.ValueFrame.TheVariants as waiting
use Rattle.jl_state.proofs.Leaves.{falls_supplied, supplied_value}
use Rattle.jl_member.proofs.Operands.{evaluates_assigned}
use Rattle.jl_member.proofs.assigned_members.put_by_key.Goals as goal

pub returns-in-Some-clause-refines : goal.returns-in-Some-clause-refines
returns-in-Some-clause-refines c =
    IfOk-weaker _ _ _ (λ a refines. evaluates_assigned c.args.state.now c.args.value c.deref.result.now c.args.here
    c.args.base _ _ c.args.name _ refl c.deref.ensures (supplied_value c.args.state.now _ c.take_step.ensures.left _ _
    ((rw c.in-Some.is at c.in_ok-found.ensures.supplies) _ c.take_step.ensures.took c.take_step.ensures.left)
    (waiting.PutMember false (record { 0 = 0 }) c.args.base c.args.name c.args.here.strict) _ _ refines))
    c.step_put_member.ensures.refines

pub returns-in-Some-clause-bounded : goal.returns-in-Some-clause-bounded
returns-in-Some-clause-bounded c =
    falls_supplied 160 60 c.args.state.now _ _ _ c.take_step.ensures.less c.step_put_member.ensures.bounded

pub returns-in-None-clause-refines : goal.returns-in-None-clause-refines
returns-in-None-clause-refines c =
    IfOk-weaker _ _ _ (λ a refines. evaluates_assigned c.args.state.now c.args.value c.deref-in-None.result.now
    c.args.here
    c.args.base _ _ c.args.name _ refl c.deref-in-None.ensures refines) c.evaluate.ensures.refines
