use Rattle.jl_srcmap.proofs.Pieces.{bad_place_is_unique}
use Rattle.jl_srcmap.proofs.laws.bad_place_is_unique.Goals as goal

pub returns : goal.returns
returns c = bad_place_is_unique
