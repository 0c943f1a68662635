use Rattle.std.proofs.lemmas.Result.{IfOk-weaker}
use Rattle.jl_operator.proofs.NoObjects.{nothing_in}
use Rattle.jl_operator.proofs.instances.in_object.Goals as goal

pub returns-in_default-clause-refines : goal.returns-in_default-clause-refines
returns-in_default-clause-refines c =
    IfOk-weaker _ _ _ (λ a refines. nothing_in c.args.a c.args.b.now c.args.state.now _ _ c.in_default.not-Obj refines)
    c.throw_native.ensures.refines
