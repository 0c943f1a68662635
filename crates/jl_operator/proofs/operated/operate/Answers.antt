use Rattle.std.proofs.lemmas.Result.{IfOk-weaker}
use Rattle.jl_operator.proofs.Operands.{operates, operates_told}
use Rattle.jl_operator.proofs.operated.operate.Goals as goal

pub returns-in_ok-push_value-clause-refines : goal.returns-in_ok-push_value-clause-refines
returns-in_ok-push_value-clause-refines c =
    IfOk-weaker _ _ _ (λ a refines. operates_told c.args.state.now _ _ _ c.args.emits c.args.id c.args.op c.args.a
    c.args.b
    _ _ c.if-emits.true c.in_ok-left.ensures c.in_ok-right.ensures c.in_ok-push_value.ensures.waits refines)
    c.binary_result.ensures.refines

pub returns-else-emits-clause-refines : goal.returns-else-emits-clause-refines
returns-else-emits-clause-refines c =
    IfOk-weaker _ _ _ (λ a refines. operates c.args.state.now _ _ c.args.emits c.args.id.0 c.args.op c.args.a c.args.b
    c.if-emits.false refines) c.binary_result-else-emits.ensures.refines
