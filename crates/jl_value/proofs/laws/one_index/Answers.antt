use Rattle.jl_value.proofs.Numerals.{one_index}
use Rattle.jl_value.proofs.laws.one_index.Goals as goal

pub returns : goal.returns
returns c = one_index
