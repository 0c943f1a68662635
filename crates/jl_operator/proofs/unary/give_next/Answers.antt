use Rattle.std.proofs.Common.{subst}
use Rattle.jl_meaning.specs.Operators.{give_number}
use Rattle.jl_state.specs.Rest.{RefinesAlgorithm}
use Rattle.jl_operator.proofs.unary.give_next.Goals as goal

pub returns-clause-refines : goal.returns-clause-refines
returns-clause-refines c = λ s.
    subst (λ r. RefinesAlgorithm s (give_number r) s c.give_number.result) c.next_number.ensures
    (c.give_number.ensures.refines s)
