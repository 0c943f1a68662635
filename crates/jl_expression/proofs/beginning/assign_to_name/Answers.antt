use Rattle.std.proofs.lemmas.Result.{IfOk-weaker}
use Rattle.jl_expression.proofs.Targets.{assigns_value}
use Rattle.jl_expression.proofs.beginning.assign_to_name.Goals as goal

pub returns-in-None-clause-refines : goal.returns-in-None-clause-refines
returns-in-None-clause-refines c =
    IfOk-weaker _ _ _ (λ a refines. assigns_value c.args.state.now c.args.here c.args.op c.args.name.now
    c.args.value.now.value _ _ c.deref.result.now c.in-None.is c.deref.ensures refines) c.assign_name.ensures.refines
