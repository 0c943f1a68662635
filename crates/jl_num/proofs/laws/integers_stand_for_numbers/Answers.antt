use Rattle.jl_num.proofs.Integers.{integers_stand_for_numbers}
use Rattle.jl_num.proofs.laws.integers_stand_for_numbers.Goals as goal

pub returns : goal.returns
returns c = integers_stand_for_numbers
