use Rattle.std.proofs.Common.{subst}
use Rattle.std.proofs.lemmas.Result.{IfOk-weaker}
use Rattle.jl_state.specs.Rest.{RefinesAlgorithm}
use Rattle.jl_operator.proofs.SameKind.{compares, computes}
use Rattle.jl_operator.proofs.binary.binary_result.Goals as goal

pub returns-in-Less-clause-refines : goal.returns-in-Less-clause-refines
returns-in-Less-clause-refines c =
    IfOk-weaker _ _ _ (λ a refines. subst (λ p. RefinesAlgorithm c.args.state.now p c.compare.new.state a)
    (compares c.args.a c.args.b c.args.op c.in-Less.is) refines) c.compare.ensures.refines

pub returns-clause-refines : goal.returns-clause-refines
returns-clause-refines c =
    IfOk-weaker _ _ _ (λ a refines. subst (λ p. RefinesAlgorithm c.args.state.now p c.on_numbers.new.state a)
    (computes c.args.a c.args.b c.args.op c.in-Mul.is) refines) c.on_numbers.ensures.refines
