use Rattle.std.proofs.lemmas.Result.{IfOk-weaker}
use Rattle.jl_operator.proofs.NoObjects.{no_instance}
use Rattle.jl_operator.proofs.instances.has_prototype.Goals as goal

pub returns-in_default-clause-refines : goal.returns-in_default-clause-refines
returns-in_default-clause-refines c =
    IfOk-weaker _ _ _ (λ a refines. no_instance c.args.value.now c.args.proto.now c.args.state.now _ _
    c.in_default.not-Obj refines) c.throw_native.ensures.refines
