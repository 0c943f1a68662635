use Rattle.jl_conv.proofs.Values.{raised}
use Rattle.jl_conv.proofs.decimal.raises.Goals as goal

pub returns-in-Some : goal.returns-in-Some
returns-in-Some c = raised c.in-Some.raise c.args.digits.now c.in-Some.ensures.0 c.in-Some.ensures.1
