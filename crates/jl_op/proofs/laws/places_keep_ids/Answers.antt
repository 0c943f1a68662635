use Rattle.jl_op.proofs.WithoutPlaces.{same_program}
use Rattle.jl_op.proofs.laws.places_keep_ids.Goals as goal

pub returns : goal.returns
returns g c = λ p. same_program p
