use Rattle.jl_effects.proofs.Traces.{run_quietly}
use Rattle.jl_effects.proofs.laws.quiet_runs.Goals as goal

pub returns : goal.returns
returns g c = λ l kept jobs n p w. run_quietly l kept jobs n p w
