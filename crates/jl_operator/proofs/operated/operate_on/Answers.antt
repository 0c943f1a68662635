use Rattle.std.proofs.lemmas.Result.{IfOk-weaker}
use Rattle.jl_operator.proofs.Operands.{operates_on, operates_on_told}
use Rattle.jl_operator.proofs.operated.operate_on.Goals as goal

pub returns-in_ok-push_value-clause-refines : goal.returns-in_ok-push_value-clause-refines
returns-in_ok-push_value-clause-refines c =
    IfOk-weaker _ _ _ (λ a refines. operates_on_told c.args.state.now _ _ _ c.args.emits c.args.id c.args.op c.args.v _
    c.if-emits.true c.in_ok-operand.ensures c.in_ok-push_value.ensures.waits refines) c.unary_result.ensures.refines

pub returns-else-emits-clause-refines : goal.returns-else-emits-clause-refines
returns-else-emits-clause-refines c =
    IfOk-weaker _ _ _ (λ a refines. operates_on c.args.state.now _ _ c.args.emits c.args.id.0 c.args.op c.args.v
    c.if-emits.false refines) c.unary_result-else-emits.ensures.refines
