use Rattle.jl_state.proofs.Steps.{evaluates_for}
use Rattle.jl_state.proofs.state.State.evaluate_for.Goals as goal

pub returns-clause-refines : goal.returns-clause-refines
returns-clause-refines c = evaluates_for _ _ _ _ _ c.in_ok-push_statement.ensures.pushed
