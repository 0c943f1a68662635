use Rattle.jl_simulation.proofs.Programs.{woven_simulates}
use Rattle.jl_simulation.proofs.laws.woven_scripts_simulate.Goals as goal

pub returns : goal.returns
returns g c = λ chosen p plain few. woven_simulates chosen p plain few
