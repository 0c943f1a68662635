use Rattle.std.proofs.lemmas.Result.{IfOk-weaker}
use Rattle.jl_member.proofs.Gets.{gets_and_emits}
use Rattle.jl_member.proofs.read_members.get_and_emit.Goals as goal

pub returns-clause-refines : goal.returns-clause-refines
returns-clause-refines c =
    IfOk-weaker _ _ _ (λ a refines. gets_and_emits c.args.state.now c.args.id c.args.base c.args.name _ _ _ _ _
    c.in_ok-share.ensures c.in_ok-share-2.ensures c.found_on-found.ensures
    (c.in_ok-push_value.ensures.waits.works _ _ _ refines)) c.get.ensures.refines
