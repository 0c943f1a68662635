use Rattle.jl_simulation.proofs.AcceptedScripts.{accepted_simulates}
use Rattle.jl_simulation.proofs.laws.accepted_scripts_simulate.Goals as goal

pub returns : goal.returns
returns c = λ chosen ts limit p read none few. accepted_simulates chosen ts limit p read none few
