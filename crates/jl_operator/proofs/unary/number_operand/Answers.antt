use Rattle.std.proofs.Common.{sym, subst}
use Rattle.jl_op.specs.declared.sign.UnKind.{UnKind}
use Rattle.jl_state.specs.AlgorithmFrames.{number_operand}
use Rattle.jl_state.specs.Rest.{RefinesAlgorithm}
use Rattle.jl_operator.proofs.unary.number_operand.Goals as goal

pub returns-in-Up-clause-refines : goal.returns-in-Up-clause-refines
returns-in-Up-clause-refines c = λ s.
    subst (λ (o : UnKind). RefinesAlgorithm s (number_operand o c.args.n) s c.give_next.result) (sym c.in-Up.is)
    (c.give_next.ensures.refines s)

pub returns-in-Down-clause-refines : goal.returns-in-Down-clause-refines
returns-in-Down-clause-refines c = λ s.
    subst (λ (o : UnKind). RefinesAlgorithm s (number_operand o c.args.n) s c.give_next-in-Down.result)
    (sym c.in-Down.is)
    (c.give_next-in-Down.ensures.refines s)
