use Rattle.jl_conv.proofs.Literals.{literals_have_their_value}
use Rattle.jl_conv.proofs.laws.literals_have_their_value.Goals as goal

pub returns : goal.returns
returns c = literals_have_their_value
