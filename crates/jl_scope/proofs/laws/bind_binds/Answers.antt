use Rattle.jl_scope.proofs.Binding.{bind_is}
use Rattle.jl_scope.proofs.laws.bind_binds.Goals as goal

pub returns : goal.returns
returns c = bind_is
