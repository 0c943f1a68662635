use Rattle.jl_scope.specs.Scope.{in_program}
use Rattle.jl_simulation.proofs.Accepted.{plain}
use Rattle.jl_simulation.proofs.laws.scripts_without_early_errors_are_plain.Goals as goal

pub returns : goal.returns
returns c = λ p none operators. plain (in_program p.body) p.body none operators
