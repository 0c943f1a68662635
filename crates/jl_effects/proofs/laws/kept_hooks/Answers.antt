use Rattle.jl_effects.proofs.Traces.{run_keeping}
use Rattle.jl_effects.proofs.laws.kept_hooks.Goals as goal

pub returns : goal.returns
returns g c = λ l kept jobs n p w. run_keeping l kept jobs n p w
