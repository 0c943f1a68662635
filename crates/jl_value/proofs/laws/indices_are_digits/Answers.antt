use Rattle.jl_value.proofs.Numerals.{index_is, index_of_is}
use Rattle.jl_value.proofs.laws.indices_are_digits.Goals as goal

pub returns : goal.returns
returns c = λ units n. (index_of_is units n, index_is units n)
