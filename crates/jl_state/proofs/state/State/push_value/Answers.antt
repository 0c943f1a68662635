use Rattle.std.proofs.Common.{ap}
use Rattle.jl_state.proofs.Steps.{value_waits}
use Rattle.jl_state.proofs.state.State.push_value.Goals as goal

pub returns-clause-waits : goal.returns-clause-waits
returns-clause-waits c =
    value_waits _ _ _ (ap (λ frames. record c.args.self.now { stack = frames }) c.in_ok-push.ensures)
