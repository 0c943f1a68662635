use Rattle.std.proofs.lemmas.Result.{IfOk-weaker}
use Rattle.jl_member.proofs.Gets.{reads_at_once, reads_member}
use Rattle.jl_member.proofs.read_members.read_member.Goals as goal

pub returns-in-Some-clause-refines : goal.returns-in-Some-clause-refines
returns-in-Some-clause-refines c =
    IfOk-weaker _ _ _ (λ a refines. reads_at_once c.args.state.now _ _ c.args.base c.args.key c.in-Some.name _ _
    c.by_script-noted.ensures.performs c.by_script-noted.ensures.first
    (rw c.in-Some.is at c.in_ok-found.ensures) refines)
    c.get_member.ensures.refines

pub returns-clause-refines : goal.returns-clause-refines
returns-clause-refines c =
    IfOk-weaker _ _ _ (λ a refines. reads_member c.args.state.now _ _ c.args.base _ c.args.key _ _
    c.by_script-noted.ensures.performs c.by_script-noted.ensures.first c.in_ok-share-in-None.ensures refines)
    c.member_name.ensures.refines
