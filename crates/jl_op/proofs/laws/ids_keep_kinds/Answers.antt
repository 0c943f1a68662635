use Rattle.jl_op.proofs.Entries.{program_kinds}
use Rattle.jl_op.proofs.laws.ids_keep_kinds.Goals as goal

pub returns : goal.returns
returns g c = λ p. program_kinds p
