use Rattle.jl_quiet.proofs.Programs.{ids_do_not_matter}
use Rattle.jl_quiet.proofs.laws.ids_do_not_matter.Goals as goal

pub returns : goal.returns
returns c = λ chosen p q. ids_do_not_matter chosen p q
