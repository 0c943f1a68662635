use Rattle.jl_ast.proofs.SameHeight.{moved}
use Rattle.jl_ast.proofs.laws.places_keep_heights.Goals as goal

pub returns : goal.returns
returns c = λ p. moved (λ s. tt) p.body
