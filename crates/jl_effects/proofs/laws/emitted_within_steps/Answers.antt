use Rattle.jl_effects.proofs.Credit.{run_pays_all}
use Rattle.jl_effects.proofs.laws.emitted_within_steps.Goals as goal

pub returns : goal.returns
returns g c = λ l k jobs paid n p s x. run_pays_all l k jobs paid n p s x
