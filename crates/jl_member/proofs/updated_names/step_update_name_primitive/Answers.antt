use Rattle.std.proofs.Common.{refl}
use Rattle.std.proofs.lemmas.Result.{IfOk-weaker}
use Rattle.jl_member.proofs.NameUpdates.{writes_next}
use Rattle.jl_member.proofs.updated_names.step_update_name_primitive.Goals as goal

pub returns-in-Ok-clause-refines : goal.returns-in-Ok-clause-refines
returns-in-Ok-clause-refines c =
    IfOk-weaker _ _ _ (λ a refines. writes_next c.args.state.now c.args.name c.args.reference c.args.up c.args.prefix
    c.args.strict c.args.held c.args.v _ _ _ _ _ _ c.in-Ok.ensures refl c.value_of_update-given.ensures refines)
    c.put_value.ensures.refines
