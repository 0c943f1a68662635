use Rattle.jl_srcmap.proofs.Digits.{digits_are_fewest}
use Rattle.jl_srcmap.proofs.laws.digits_are_fewest.Goals as goal

pub returns : goal.returns
returns c = digits_are_fewest
