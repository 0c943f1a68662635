use Rattle.jl_op.proofs.Entries.{program_ids}
use Rattle.jl_op.proofs.laws.ids_are_in_order.Goals as goal

pub returns : goal.returns
returns g c = λ p. program_ids p
