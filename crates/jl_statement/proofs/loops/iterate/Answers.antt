use Rattle.jl_statement.proofs.LoopKinds.{turns_do, turns_for, turns_for_in, turns_untested, turns_while}
use Rattle.jl_statement.proofs.Results.{if_ok}
use Rattle.jl_statement.proofs.loops.iterate.Goals as goal

pub returns-in-Do-clause-refines : goal.returns-in-Do-clause-refines
returns-in-Do-clause-refines c =
    if_ok _ _ _ c.begin_body.ensures.refines (λ a refines. turns_do c.args.state.now c.args.turn _ _ c.in-Do.body
    c.in-Do.test (rw c.get.ensures at c.in-Do.is) refines)

pub returns-in-While-clause-refines : goal.returns-in-While-clause-refines
returns-in-While-clause-refines c =
    if_ok _ _ _ c.begin_test.ensures.refines (λ a refines. turns_while c.args.state.now c.args.turn _ _ c.in-While.test
    c.in-While.body (rw c.get.ensures at c.in-While.is) refines)

pub returns-in-Some-clause-refines : goal.returns-in-Some-clause-refines
returns-in-Some-clause-refines c =
    if_ok _ _ _ c.begin_test-in-Some.ensures.refines (λ a refines. turns_for c.args.state.now c.args.turn _ _
    c.in-For.test c.in-For.update c.in-For.body _ (rw c.get.ensures at c.in-For.is) c.in-Some.is refines)

pub returns-in-None-clause-refines : goal.returns-in-None-clause-refines
returns-in-None-clause-refines c =
    if_ok _ _ _ c.begin_body-in-None.ensures.refines (λ a refines. turns_untested c.args.state.now c.args.turn _ _
    c.in-For.test c.in-For.update c.in-For.body (rw c.get.ensures at c.in-For.is) c.in-None.is refines)

pub returns-in_ok-name-in-ForIn-clause-refines : goal.returns-in_ok-name-in-ForIn-clause-refines
returns-in_ok-name-in-ForIn-clause-refines c =
    if_ok _ _ _ c.put_visited.ensures.refines (λ a refines. turns_for_in c.args.state.now c.args.turn _ _
    c.in-ForIn.variable c.in-ForIn.visits c.in-ForIn.body _ (rw c.get.ensures at c.in-ForIn.is)
    c.in_ok-name-in-ForIn.ensures refines)
