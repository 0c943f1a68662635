use Rattle.jl_statement.proofs.Heading.{for_expression}
use Rattle.jl_statement.proofs.Results.{if_ok}
use Rattle.jl_statement.proofs.heads.begin_for.Goals as goal

pub returns-in-Expr-clause-refines : goal.returns-in-Expr-clause-refines
returns-in-Expr-clause-refines c =
    if_ok _ _ _ (rw c.in_ok-turn.ensures at c.evaluate_for.ensures.refines)
    (λ a refines. for_expression c.args.state.now _ _ c.args.turn _ _ c.in-Expr.is refines)
