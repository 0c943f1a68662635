use Rattle.std.proofs.lemmas.Result.{IfOk-weaker}
use Rattle.jl_member.proofs.Operands.{evaluates_deleted_key}
use Rattle.jl_member.proofs.deleted_members.step_delete_index_base.Goals as goal

pub returns-clause-refines : goal.returns-clause-refines
returns-clause-refines c =
    IfOk-weaker _ _ _ (λ a refines. evaluates_deleted_key c.args.state.now c.args.key c.deref.result.now c.args.here
    c.args.v _ _ c.deref.ensures refines) c.evaluate.ensures.refines
