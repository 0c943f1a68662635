use Rattle.std.proofs.lemmas.Result.{IfOk-weaker}
use Rattle.jl_operator.proofs.Equalities.{equality_waits}
use Rattle.jl_operator.proofs.equality.equal_object.Goals as goal

pub returns-clause-refines : goal.returns-clause-refines
returns-clause-refines c =
    IfOk-weaker _ _ _ (λ a refines. equality_waits c.args.state.now _ _ c.args.object c.args.other c.args.is_negative _
    c.if-is_nothing.ensures c.in_ok-push_algorithm.ensures.waits refines) c.to_primitive.ensures.refines
