use Rattle.std.proofs.Common.{refl}
use Rattle.jl_statement.proofs.Results.{if_ok}
use Rattle.jl_statement.proofs.Turning.{turn_spent, turns}
use Rattle.jl_statement.proofs.loops.begin_turn.Goals as goal

pub returns-then-not-spend-clause-refines : goal.returns-then-not-spend-clause-refines
returns-then-not-spend-clause-refines c =
    turn_spent _ _ _ (c.if-not-spend.ensures.ran_out refl) (c.if-not-spend.ensures.same refl)

pub returns-clause-refines : goal.returns-clause-refines
returns-clause-refines c =
    if_ok _ _ _ c.iterate.ensures.refines (λ a refines. turns _ _ c.args.turn _ _ (c.if-not-spend.ensures.took refl)
    (c.if-not-spend.ensures.left refl) refines)
