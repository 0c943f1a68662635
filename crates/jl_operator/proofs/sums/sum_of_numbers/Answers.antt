use Rattle.std.proofs.Common.{subst}
use Rattle.jl_meaning.specs.Operators.{give_number}
use Rattle.jl_state.specs.Rest.{RefinesAlgorithm}
use Rattle.jl_operator.proofs.Operands.{found}
use Rattle.jl_operator.proofs.sums.sum_of_numbers.Goals as goal

pub returns-in-Ok-Ok-clause-refines : goal.returns-in-Ok-Ok-clause-refines
returns-in-Ok-Ok-clause-refines c = λ s.
    found s s _ _ c.in-Ok-Ok.x _ c.in-Ok-Ok.ensures
    (found s s _ _ c.in-Ok-Ok.y _ c.in-Ok-Ok.ensures'
    (subst (λ r. RefinesAlgorithm s (give_number r) s c.give_number.result) c.add.ensures
    (c.give_number.ensures.refines s)))
