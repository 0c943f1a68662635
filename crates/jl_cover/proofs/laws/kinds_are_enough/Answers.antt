use Rattle.jl_cover.proofs.KindsEnough.{kinds_enough}
use Rattle.jl_cover.proofs.laws.kinds_are_enough.Goals as goal

pub returns : goal.returns
returns c = kinds_enough
