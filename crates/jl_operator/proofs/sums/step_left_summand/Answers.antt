use Rattle.std.proofs.lemmas.Result.{IfOk-weaker}
use Rattle.jl_meaning.specs.Conversions.{no_hint}
use Rattle.jl_meaning.specs.Operators.{sum_of_primitives}
use Rattle.jl_operator.proofs.Operands.{at_once}
use Rattle.jl_operator.proofs.sums.step_left_summand.Goals as goal

pub returns-else-is_object-clause-refines : goal.returns-else-is_object-clause-refines
returns-else-is_object-clause-refines c =
    IfOk-weaker _ _ _ (λ a refines. at_once c.args.state.now _ no_hint c.args.right (sum_of_primitives c.args.v) a
    c.if-is_object.ensures refines) c.step_right_summand.ensures.refines
