use Rattle.jl_analysis.proofs.Needed.{needed_is_enough}
use Rattle.jl_analysis.proofs.laws.needed_is_enough.Goals as goal

pub returns : goal.returns
returns c = needed_is_enough
