use Rattle.jl_num.proofs.Exact.{remainders_are_exact}
use Rattle.jl_num.proofs.laws.remainders_are_exact.Goals as goal

pub returns : goal.returns
returns c = remainders_are_exact
