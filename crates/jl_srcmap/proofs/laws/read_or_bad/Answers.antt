use Rattle.jl_srcmap.proofs.Pieces.{read_or_bad}
use Rattle.jl_srcmap.proofs.laws.read_or_bad.Goals as goal

pub returns : goal.returns
returns c = read_or_bad
