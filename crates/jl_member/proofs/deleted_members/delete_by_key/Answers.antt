use Rattle.std.proofs.lemmas.Result.{IfOk-weaker}
use Rattle.jl_member.proofs.Deletes.{deletes, throws_deleting}
use Rattle.jl_member.proofs.deleted_members.delete_by_key.Goals as goal

pub returns-in-Gives-clause-refines : goal.returns-in-Gives-clause-refines
returns-in-Gives-clause-refines c =
    IfOk-weaker _ _ _ (λ a refines. deletes c.args.state.now _ c.args.noted c.args.base c.args.strict c.args.name _
    c.delete.ensures.stored c.in_ok-free.ensures.comes _ _ _ c.in-Gives.is refines) c.note_deleted.ensures.refines

pub returns-clause-refines : goal.returns-clause-refines
returns-clause-refines c =
    throws_deleting _ _ c.args.noted c.args.base c.args.strict c.args.name _ c.delete.ensures.stored
    c.in_ok-free.ensures.comes _ c.in-Throws.is
