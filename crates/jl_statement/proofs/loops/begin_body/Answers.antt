use Rattle.jl_statement.proofs.Results.{if_ok}
use Rattle.jl_statement.proofs.Turning.{bodies}
use Rattle.jl_statement.proofs.loops.begin_body.Goals as goal

pub returns-clause-refines : goal.returns-clause-refines
returns-clause-refines c =
    if_ok _ _ _ (rw c.get-2.ensures at c.begin_statements.ensures.refines)
    (λ a refines. bodies _ _ c.args.turn _ _ _ c.in_ok-push_completion.ensures.pushed
    (rw c.get.ensures at c.body_of-body.ensures) refines)
