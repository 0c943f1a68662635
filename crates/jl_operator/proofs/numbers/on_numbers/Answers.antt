use Rattle.std.proofs.Common.{refl}
use Rattle.std.proofs.lemmas.Result.{IfOk-weaker}
use Rattle.jl_meaning.specs.Conversions.{to_number}
use Rattle.jl_meaning.specs.Operators.{give_number}
use Rattle.jl_meaning.specs.Parts.{◌>>=◌}
use Rattle.jl_state.specs.AlgorithmFrames.{number_result}
use Rattle.jl_operator.proofs.Operands.{number_at_once, number_waits}
use Rattle.jl_operator.proofs.numbers.on_numbers.Goals as goal

pub returns-in_ok-push_algorithm-clause-refines : goal.returns-in_ok-push_algorithm-clause-refines
returns-in_ok-push_algorithm-clause-refines c =
    IfOk-weaker _ _ _ (λ a refines. number_waits c.args.state.now _ _ _
    (λ x. to_number c.args.b >>= λ y. give_number (number_result c.args.op x y)) c.args.a _ (λ p. refl)
    c.in_ok-push_algorithm.ensures.waits refines) c.to_primitive.ensures.refines

pub returns-else-is_object-clause-refines : goal.returns-else-is_object-clause-refines
returns-else-is_object-clause-refines c =
    IfOk-weaker _ _ _ (λ a refines. number_at_once c.args.state.now _ c.args.a
    (λ x. to_number c.args.b >>= λ y. give_number (number_result c.args.op x y)) a c.if-is_object.ensures refines)
    c.step_left_number.ensures.refines
