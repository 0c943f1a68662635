use Rattle.jl_state.proofs.Steps.{evaluates}
use Rattle.jl_state.proofs.state.State.evaluate.Goals as goal

pub returns-clause-refines : goal.returns-clause-refines
returns-clause-refines c = evaluates _ _ _ _ _ c.in_ok-push_value.ensures.pushed
