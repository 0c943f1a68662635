use Rattle.std.proofs.Common.{refl}
use Rattle.jl_statement.proofs.Results.{if_ok}
use Rattle.jl_statement.proofs.Visiting.{visited_none, visited_some, visited_spent}
use Rattle.jl_statement.proofs.for_in.visit_next.Goals as goal

pub returns-in-None-clause-refines : goal.returns-in-None-clause-refines
returns-in-None-clause-refines c =
    visited_none c.args.state.now c.args.turn c.get_mut.result.now _ c.next_name.new.kind c.get_mut.ensures.value
    c.in_ok-next_name.ensures c.in-None.is

pub returns-then-not-spend-clause-refines : goal.returns-then-not-spend-clause-refines
returns-then-not-spend-clause-refines c =
    visited_spent c.args.state.now c.args.turn c.get_mut.result.now _ c.next_name.new.kind c.in-Some.variable
    c.in-Some.name _ c.get_mut.ensures.value c.in_ok-next_name.ensures c.in-Some.is
    (c.if-not-spend.ensures.ran_out refl) (c.if-not-spend.ensures.same refl)

pub returns-clause-refines : goal.returns-clause-refines
returns-clause-refines c =
    if_ok _ _ _ c.put_visited.ensures.refines (λ a refines. visited_some c.args.state.now c.args.turn
    c.get_mut.result.now _ c.next_name.new.kind c.in-Some.variable c.in-Some.name _ _ _ c.get_mut.ensures.value
    c.in_ok-next_name.ensures c.in-Some.is (c.if-not-spend.ensures.took refl) (c.if-not-spend.ensures.left refl)
    refines)
