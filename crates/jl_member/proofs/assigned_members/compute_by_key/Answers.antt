use Rattle.std.proofs.lemmas.Result.{IfOk-weaker}
use Rattle.jl_member.proofs.Operands.{computes_got}
use Rattle.jl_member.proofs.assigned_members.compute_by_key.Goals as goal

pub returns-clause-refines : goal.returns-clause-refines
returns-clause-refines c =
    IfOk-weaker _ _ _ (λ a refines. computes_got c.args.state.now _ _ c.args.base _ c.args.name _ c.args.op c.args.value
    c.args.here _ _ c.by_script.ensures.performs c.by_script.ensures.first c.in_ok-share.ensures c.in_ok-share-2.ensures
    (c.in_ok-push_value.ensures.waits.gives _ _ _ refines)) c.get_member.ensures.refines
