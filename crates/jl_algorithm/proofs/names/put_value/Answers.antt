use Rattle.std.proofs.lemmas.Result.{IfOk-weaker}
use Rattle.jl_algorithm.proofs.Resolved.{puts_nowhere}
use Rattle.jl_algorithm.proofs.names.put_value.Goals as goal

pub returns-then-strict-clause-refines : goal.returns-then-strict-clause-refines
returns-then-strict-clause-refines c =
    IfOk-weaker _ _ _ (λ a refines. puts_nowhere c.args.state.now _ _ c.args.name.now c.args.v c.args.gives _ _
    c.in-Unresolvable.is c.if-strict.true refines) c.throw_not_defined.ensures.refines
