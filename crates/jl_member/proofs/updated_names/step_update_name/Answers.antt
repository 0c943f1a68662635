use Rattle.std.proofs.Common.{refl}
use Rattle.std.proofs.lemmas.Result.{IfOk-weaker}
use Rattle.jl_member.proofs.NameUpdates.{converts_name, converts_number}
use Rattle.jl_member.proofs.updated_names.step_update_name.Goals as goal

pub returns-in-Num-clause-refines : goal.returns-in-Num-clause-refines
returns-in-Num-clause-refines c =
    IfOk-weaker _ _ _ (λ a refines. converts_number c.args.state.now c.args.name c.args.reference c.args.up
    c.args.prefix
    c.args.strict _ _ c.args.v _ a c.in-Num.is refl refines)
    c.step_update_name_primitive.ensures.refines

pub returns-clause-refines : goal.returns-clause-refines
returns-clause-refines c =
    IfOk-weaker _ _ _ (λ a refines. converts_name c.args.state.now c.args.name c.args.reference c.args.up c.args.prefix
    c.args.strict _ _ _ c.args.v _ c.in_ok-held.ensures c.in_ok-push_value.ensures.waits refines)
    c.to_primitive.ensures.refines
