use Rattle.jl_read_back.proofs.Programs.{low}
use Rattle.jl_read_back.proofs.laws.woven_height.Goals as goal

pub returns : goal.returns
returns g c = λ chosen p q e. low chosen p q e
