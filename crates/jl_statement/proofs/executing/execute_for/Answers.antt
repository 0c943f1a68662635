use Rattle.jl_statement.proofs.Executes.{executes_for}
use Rattle.jl_statement.proofs.executing.execute_for.Goals as goal

pub returns-clause-refines : goal.returns-clause-refines
returns-clause-refines c = executes_for _ _ _ _ _ _ c.in_ok-push_completion.ensures.pushed
