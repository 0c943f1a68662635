use Rattle.jl_scope.proofs.Order.{first_first}
use Rattle.jl_scope.proofs.laws.first_comes_first.Goals as goal

pub returns : goal.returns
returns c = first_first
