use Rattle.std.proofs.Common.{subst}
use Rattle.jl_meaning.specs.Operators.{give_number}
use Rattle.jl_state.specs.Rest.{RefinesAlgorithm}
use Rattle.jl_operator.proofs.Operands.{found}
use Rattle.jl_operator.proofs.numbers.step_right_number.Goals as goal

pub returns-in-Ok-clause-refines : goal.returns-in-Ok-clause-refines
returns-in-Ok-clause-refines c =
    found _ _ _ _ c.in-Ok.y _ c.in-Ok.ensures
    (subst (λ r. RefinesAlgorithm c.args.state.now
    (give_number r) c.args.state.now c.give_number.result) c.number_result.ensures
    (c.give_number.ensures.refines c.args.state.now))
