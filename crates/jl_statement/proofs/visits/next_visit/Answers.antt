use Rattle.jl_statement.proofs.Gathered.{next_found}
use Rattle.jl_statement.proofs.visits.next_visit.Goals as goal

pub returns : goal.returns
returns c =
    next_found c.args.store.now.heap _ c.args.visits.now _ _ c.first_left-at.result c.in-Some.visit.now _ c.heap.ensures
    c.items.ensures c.first_left-at.ensures c.items-2.ensures c.in-Some.ensures.lookup.3.0 c.in-Some.ensures.lookup.1
    c.in_ok-name-in-Some.ensures
