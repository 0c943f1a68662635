use Rattle.jl_statement.proofs.Results.{if_ok}
use Rattle.jl_statement.proofs.Selecting.{from_none, from_selected}
use Rattle.jl_statement.proofs.switches.begin_from.Goals as goal

pub returns-in-None-clause-refines : goal.returns-in-None-clause-refines
returns-in-None-clause-refines c =
    from_none _ _ c.args.selected c.args.cases.now c.args.here c.in-None.is c.in_ok-push_completion.ensures.pushed

pub returns-in-Some-clause-refines : goal.returns-in-Some-clause-refines
returns-in-Some-clause-refines c =
    if_ok _ _ _ c.begin_clauses.ensures.refines (λ a refines. from_selected _ _ c.args.selected _ c.args.cases.now
    c.args.here _ _ c.in-Some.is c.in_ok-push_completion.ensures.pushed refines)
