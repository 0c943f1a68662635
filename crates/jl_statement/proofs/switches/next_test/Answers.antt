use Rattle.jl_statement.proofs.Dropped.{found_at}
use Rattle.jl_statement.proofs.Selecting.{next_found, selects_next}
use Rattle.jl_statement.proofs.switches.next_test.Goals as goal

pub returns-in-Some-test : goal.returns-in-Some-test
returns-in-Some-test c =
    next_found _ _ _ c.in-Some.case.now _ c.loop-case.invariant
    (found_at _ _ _ _ c.items.ensures c.in-Some.ensures.lookup.3.0 c.in-Some.ensures.lookup.1) c.in-Some-test.is

pub loop-case-preserved : goal.loop-case-preserved
loop-case-preserved c =
    selects_next _ _ _ c.in-Some.case.now c.loop-case.invariant
    (found_at _ _ _ _ c.items.ensures c.in-Some.ensures.lookup.3.0 c.in-Some.ensures.lookup.1) c.in-None.is
