use Rattle.std.proofs.lemmas.Result.{IfOk-weaker}
use Rattle.jl_meaning.specs.Conversions.{no_hint, to_primitive}
use Rattle.jl_meaning.specs.Operators.{sum_of_primitives}
use Rattle.jl_meaning.specs.Parts.{◌>>=◌}
use Rattle.jl_operator.proofs.Operands.{at_once}
use Rattle.jl_operator.proofs.sums.sum.Goals as goal

pub returns-else-is_object-clause-refines : goal.returns-else-is_object-clause-refines
returns-else-is_object-clause-refines c =
    IfOk-weaker _ _ _ (λ a refines. at_once c.args.state.now _ no_hint c.args.a
    (λ x. to_primitive no_hint c.args.b >>= λ y. sum_of_primitives x y) a c.if-is_object.ensures refines)
    c.step_left_summand.ensures.refines
