use Rattle.jl_srcmap.proofs.Pieces.{never_both}
use Rattle.jl_srcmap.proofs.laws.never_both.Goals as goal

pub returns : goal.returns
returns c = never_both
