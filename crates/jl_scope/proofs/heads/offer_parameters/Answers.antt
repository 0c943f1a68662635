use Rattle.jl_scope.specs.inner.Steps.{scope_of}
use Rattle.jl_scope.proofs.Firsts.{parameter_turn}
use Rattle.jl_scope.proofs.heads.offer_parameters.Goals as goal

pub loop-p-preserved : goal.loop-p-preserved
loop-p-preserved c =
    parameter_turn (scope_of c.args.s.now) c.args.params.now c.loop-p.p-index c.p-item.result _ _ _ _ _ c.p-item.is
    c.loop-p-test.true c.loop-p.invariant c.in_ok-offer_parameter.ensures.found c.in_ok-offer_parameter.ensures.before
