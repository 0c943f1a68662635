use Rattle.jl_statement.proofs.Executes.{executes_first}
use Rattle.jl_statement.proofs.Results.{if_ok}
use Rattle.jl_statement.proofs.executing.begin_remaining.Goals as goal

pub returns-in-Some-clause-refines : goal.returns-in-Some-clause-refines
returns-in-Some-clause-refines c =
    if_ok _ _ _ c.execute_for.ensures.refines (λ a refines. executes_first c.args.state.now _ _ _ c.args.here _ _ _
    c.in-Some.ensures c.none.ensures refines)
