use Rattle.jl_op.specs.Ids.{program_with_ids}
use Rattle.jl_meaning.proofs.KeptHooks.{kept_of_run}
use Rattle.jl_meaning.proofs.laws.kept_hooks.Goals as goal

pub returns : goal.returns
returns g c = λ kinds p n. kept_of_run kinds (program_with_ids p) n
