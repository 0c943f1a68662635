use Rattle.jl_conv.proofs.OnlyLiterals.{only_literals_have_one}
use Rattle.jl_conv.proofs.laws.only_literals_have_one.Goals as goal

pub returns : goal.returns
returns c = only_literals_have_one
