use Rattle.jl_statement.proofs.Results.{if_ok}
use Rattle.jl_statement.proofs.Selecting.{clauses_over}
use Rattle.jl_statement.proofs.switches.begin_clauses.Goals as goal

pub returns-in_ok-push_completion-in-Some-clause-refines : goal.returns-in_ok-push_completion-in-Some-clause-refines
returns-in_ok-push_completion-in-Some-clause-refines c =
    if_ok _ _ _ c.begin_statements.ensures.refines (λ a refines. clauses_over _ _ _ c.in-Some.case.now c.in-Some.rest
    c.args.here _ _ c.in-Some.ensures c.in_ok-push_completion-in-Some.ensures.pushed refines)
