use Rattle.jl_simulation.proofs.FewIds.{few_entries}
use Rattle.jl_simulation.proofs.laws.few_ids.Goals as goal

pub returns : goal.returns
returns c = few_entries
