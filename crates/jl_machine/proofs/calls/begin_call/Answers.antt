use Rattle.std.proofs.Common.{ap, refl}
use Rattle.jl_state.specs.declared.state.State.{State}
use Rattle.jl_machine.proofs.Callees.{begins, spends}
use Rattle.jl_machine.proofs.calls.begin_call.Goals as goal

pub returns-then-not-spend-clause-refines : goal.returns-then-not-spend-clause-refines
returns-then-not-spend-clause-refines c =
    spends _ _ _ (c.if-not-spend.ensures.same refl) (c.if-not-spend.ensures.ran_out refl)

pub returns-clause-refines : goal.returns-clause-refines
returns-clause-refines c =
    begins _ _ _ _ _ (c.if-not-spend.ensures.took refl)
    (ap (λ (s : State). s.functions) (c.if-not-spend.ensures.left refl)) c.in_ok-begin_inside.ensures.refines
