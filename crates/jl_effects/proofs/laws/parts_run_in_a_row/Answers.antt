use Rattle.jl_effects.proofs.Chains.{run-and_then}
use Rattle.jl_effects.proofs.laws.parts_run_in_a_row.Goals as goal

pub returns : goal.returns
returns g c = λ l k jobs n p q w. run-and_then l k jobs q n p w
