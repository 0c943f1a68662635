use Rattle.jl_num.proofs.Powers.{powers_multiply}
use Rattle.jl_num.proofs.laws.powers_multiply.Goals as goal

pub returns : goal.returns
returns c = powers_multiply
