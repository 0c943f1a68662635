use Rattle.std.proofs.Common.{sym}
use Rattle.jl_statement.proofs.Results.{if_ok}
use Rattle.jl_statement.proofs.Turning.{tested_end, tested_turn}
use Rattle.jl_statement.proofs.loops.step_test.Goals as goal

pub returns-then-not-to_boolean-clause-refines : goal.returns-then-not-to_boolean-clause-refines
returns-then-not-to_boolean-clause-refines c = tested_end _ _ _ c.if-not-to_boolean.ensures

pub returns-clause-refines : goal.returns-clause-refines
returns-clause-refines c =
    if_ok _ _ _ c.begin_turn.ensures.refines
    (λ a refines. tested_turn c.args.state.now c.args.turn c.args.v _ _ c.if-not-to_boolean.ensures
    (rw c.get.ensures at (sym c.if-not-is_do.ensures)) refines)
