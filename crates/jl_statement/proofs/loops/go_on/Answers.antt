use Rattle.jl_statement.proofs.LoopKinds.{ends_do, ends_for, ends_for_in, ends_while, ends_without}
use Rattle.jl_statement.proofs.Results.{if_ok}
use Rattle.jl_statement.proofs.loops.go_on.Goals as goal

pub returns-in-Do-clause-refines : goal.returns-in-Do-clause-refines
returns-in-Do-clause-refines c =
    if_ok _ _ _ (rw c.get-in-Do.ensures at c.evaluate_for.ensures.refines)
    (λ a refines. ends_do c.args.state.now c.args.turn _ _ c.in-Do.body c.in-Do.test (rw c.get.ensures at c.in-Do.is)
    refines)

pub returns-in-While-clause-refines : goal.returns-in-While-clause-refines
returns-in-While-clause-refines c =
    if_ok _ _ _ c.begin_turn.ensures.refines (λ a refines. ends_while c.args.state.now c.args.turn _ _ c.in-While.test
    c.in-While.body (rw c.get.ensures at c.in-While.is) refines)

pub returns-in-Some-clause-refines : goal.returns-in-Some-clause-refines
returns-in-Some-clause-refines c =
    if_ok _ _ _ (rw c.get-in-For.ensures at c.evaluate_for-in-Some.ensures.refines)
    (λ a refines. ends_for c.args.state.now c.args.turn _ _ c.in-For.test c.in-For.update c.in-For.body _
    (rw c.get.ensures at c.in-For.is) c.in-Some.is refines)

pub returns-in-None-clause-refines : goal.returns-in-None-clause-refines
returns-in-None-clause-refines c =
    if_ok _ _ _ c.begin_turn-in-None.ensures.refines (λ a refines. ends_without c.args.state.now c.args.turn _ _
    c.in-For.test c.in-For.update c.in-For.body (rw c.get.ensures at c.in-For.is) c.in-None.is refines)

pub returns-in-ForIn-clause-refines : goal.returns-in-ForIn-clause-refines
returns-in-ForIn-clause-refines c =
    if_ok _ _ _ c.visit_next.ensures.refines (λ a refines. ends_for_in c.args.state.now c.args.turn _ _
    c.in-ForIn.variable c.in-ForIn.visits c.in-ForIn.body (rw c.get.ensures at c.in-ForIn.is) refines)
