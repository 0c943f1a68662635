use Rattle.jl_statement.proofs.Results.{if_ok}
use Rattle.jl_statement.proofs.Trying.{finally_over}
use Rattle.jl_statement.proofs.tries.begin_finally.Goals as goal

pub returns-in_ok-push_completion-in-Some-clause-refines : goal.returns-in_ok-push_completion-in-Some-clause-refines
returns-in_ok-push_completion-in-Some-clause-refines c =
    if_ok _ _ _ c.begin_statements.ensures.refines (λ a refines. finally_over _ _ _ _ _ c.args.here _ _ c.in-Some.is
    c.in_ok-push_completion-in-Some.ensures.pushed refines)
