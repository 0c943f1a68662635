use Rattle.jl_srcmap.proofs.Pieces.{readings_are_unique}
use Rattle.jl_srcmap.proofs.laws.readings_are_unique.Goals as goal

pub returns : goal.returns
returns c = readings_are_unique
