use Rattle.jl_effects.proofs.Growth.{runs_go_on, has_left}
use Rattle.jl_effects.proofs.laws.nothing_is_taken_back.Goals as goal

pub returns-clause-goes_on : goal.returns-clause-goes_on
returns-clause-goes_on g c = λ l k jobs n p w. runs_go_on l k jobs n p w

pub returns-clause-left : goal.returns-clause-left
returns-clause-left g c = λ l k jobs n p w. has_left l k jobs n p w
