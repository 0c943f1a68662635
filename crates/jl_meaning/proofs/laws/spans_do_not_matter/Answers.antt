use Rattle.jl_meaning.proofs.Places.{same_mean}
use Rattle.jl_meaning.proofs.laws.spans_do_not_matter.Goals as goal

pub returns : goal.returns
returns g c = λ kinds p q e n. same_mean kinds p q e n
