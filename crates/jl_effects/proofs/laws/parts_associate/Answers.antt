use Rattle.jl_effects.proofs.Chains.{and_then-assoc, and_then-end}
use Rattle.jl_effects.proofs.laws.parts_associate.Goals as goal

pub returns-clause-three : goal.returns-clause-three
returns-clause-three g c = λ p k l. and_then-assoc p k l

pub returns-clause-end : goal.returns-clause-end
returns-clause-end g c = λ p. and_then-end p
