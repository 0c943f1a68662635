use Rattle.std.proofs.lemmas.Result.{IfOk-weaker}
use Rattle.jl_meaning.specs.Operators.{sum_of_primitives}
use Rattle.jl_state.specs.Rest.{RefinesAlgorithm}
use Rattle.jl_state.specs.declared.state.State.{State}
use Rattle.jl_operator.proofs.sums.step_right_summand.Goals as goal

pub returns-clause-refines : goal.returns-clause-refines
returns-clause-refines c =
    IfOk-weaker _ _ _ (λ a (refines : (s : State) → RefinesAlgorithm s (sum_of_primitives c.args.left c.args.v) s a).
    refines c.args.state.now) c.sum_of_primitives.ensures.refines
