use Rattle.std.proofs.lemmas.Result.{IfOk-weaker}
use Rattle.jl_member.proofs.Deletes.{deletes_so}
use Rattle.jl_member.proofs.deleted_members.delete_own.Goals as goal

pub returns-clause-refines : goal.returns-clause-refines
returns-clause-refines c =
    IfOk-weaker _ _ _ (λ a refines. deletes_so c.args.state.now _ _ c.args.strict c.args.base c.args.key _ _
    c.by_script.ensures.performs c.by_script.ensures.first refines) c.delete_member.ensures.refines
