use Rattle.std.proofs.Common.{subst, sym}
use Rattle.std.proofs.lemmas.Result.{IfOk-weaker}
use Rattle.jl_state.specs.AlgorithmFrames.{after_define}
use Rattle.jl_state.specs.Rest.{RefinesAlgorithm}
use Rattle.jl_algorithm.proofs.Puts.{rejects, rejects_definition}
use Rattle.jl_algorithm.proofs.defining.after_define.Goals as goal

pub returns-then-not-done-clause-refines : goal.returns-then-not-done-clause-refines
returns-then-not-done-clause-refines c =
    IfOk-weaker _ _ _ (λ a refines.
    subst (λ p. RefinesAlgorithm c.args.state.now (after_define p c.args.done) c.throw_native.new.state a)
    (sym c.in-Put.is)
    (rejects _ _ _ _ _ _ c.if-throwing.true c.if-not-done.true refines)) c.throw_native.ensures.refines

pub returns-then-not-done-2-clause-refines : goal.returns-then-not-done-2-clause-refines
returns-then-not-done-2-clause-refines c =
    IfOk-weaker _ _ _ (λ a refines.
    subst (λ p. RefinesAlgorithm c.args.state.now
    (after_define p c.args.done) c.throw_native-then-not-done-2.new.state a)
    (sym c.in-Builtin.is) (rejects_definition _ _ _ _ _ c.if-not-done-2.true refines))
    c.throw_native-then-not-done-2.ensures.refines
