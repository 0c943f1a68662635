use Rattle.jl_num.proofs.Exact.{quotients_are_exact}
use Rattle.jl_num.proofs.laws.quotients_are_exact.Goals as goal

pub returns : goal.returns
returns c = quotients_are_exact
