use Rattle.std.proofs.lemmas.Result.{IfOk-weaker}
use Rattle.jl_meaning.specs.Conversions.{number_hint}
use Rattle.jl_state.specs.AlgorithmFrames.{algorithm_after}
use Rattle.jl_state.specs.declared.algorithm_frame.AlgorithmFrame.TheVariants as algorithm
use Rattle.jl_operator.proofs.Operands.{at_once}
use Rattle.jl_operator.proofs.relations.compare.Goals as goal

pub returns-else-is_object-clause-refines : goal.returns-else-is_object-clause-refines
returns-else-is_object-clause-refines c =
    IfOk-weaker _ _ _ (λ a refines. at_once c.args.state.now _ number_hint c.args.a
    (algorithm_after (algorithm.LeftCompared c.args.op c.args.b)) a c.if-is_object.ensures refines)
    c.step_left_compared.ensures.refines
