use Rattle.std.proofs.lemmas.Result.{IfOk-weaker}
use Rattle.jl_operator.proofs.NoObjects.{no_prototype}
use Rattle.jl_operator.proofs.instances.is_instance.Goals as goal

pub returns-in_default-clause-refines : goal.returns-in_default-clause-refines
returns-in_default-clause-refines c =
    IfOk-weaker _ _ _ (λ a refines. no_prototype c.args.state.now.store.heap c.args.object c.args.proto.now
    c.args.state.now _ _ c.in_default.not-Obj refines) c.throw_native.ensures.refines
