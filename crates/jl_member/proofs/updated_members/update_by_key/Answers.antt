use Rattle.std.proofs.lemmas.Result.{IfOk-weaker}
use Rattle.jl_member.proofs.MemberUpdates.{updates_got}
use Rattle.jl_member.proofs.updated_members.update_by_key.Goals as goal

pub returns-clause-refines : goal.returns-clause-refines
returns-clause-refines c =
    IfOk-weaker _ _ _ (λ a refines. updates_got c.args.state.now c.args.noted c.args.base _ c.args.name _ c.args.up
    c.args.prefix c.args.strict _ _ c.in_ok-share.ensures c.in_ok-share-2.ensures
    (c.in_ok-push_value.ensures.waits.gives _ _ _ refines)) c.get_member.ensures.refines
