use Rattle.jl_conv.proofs.Values.{lowered}
use Rattle.jl_conv.proofs.decimal.lowers.Goals as goal

pub returns-in-Some : goal.returns-in-Some
returns-in-Some c = lowered c.in-Some.lower c.args.digits.now c.in-Some.ensures.0 c.in-Some.ensures.1
