use Rattle.jl_op.proofs.Entries.{map_length}
use Rattle.jl_op.proofs.laws.map_has_each_id.Goals as goal

pub returns : goal.returns
returns g c = λ p. map_length p
