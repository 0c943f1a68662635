use Rattle.std.proofs.Common.{refl}
use Rattle.std.proofs.lemmas.Result.{IfOk-weaker}
use Rattle.jl_state.specs.AlgorithmFrames.{number_operand}
use Rattle.jl_operator.proofs.Operands.{number_at_once, number_waits}
use Rattle.jl_operator.proofs.unary.on_number.Goals as goal

pub returns-in_ok-push_algorithm-clause-refines : goal.returns-in_ok-push_algorithm-clause-refines
returns-in_ok-push_algorithm-clause-refines c =
    IfOk-weaker _ _ _ (λ a refines. number_waits c.args.state.now _ _ _ (number_operand c.args.op) c.args.v _
    (λ p. refl)
    c.in_ok-push_algorithm.ensures.waits refines) c.to_primitive.ensures.refines

pub returns-else-is_object-clause-refines : goal.returns-else-is_object-clause-refines
returns-else-is_object-clause-refines c =
    IfOk-weaker _ _ _ (λ a refines. number_at_once c.args.state.now _ c.args.v (number_operand c.args.op) a
    c.if-is_object.ensures refines) c.step_number_operand.ensures.refines
