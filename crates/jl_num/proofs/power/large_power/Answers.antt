use Rattle.std.proofs.Common.{sym}
use Rattle.jl_num.proofs.Powers.{large_power}
use Rattle.jl_num.proofs.power.large_power.Goals as goal

pub returns-then-exponent-gt63 : goal.returns-then-exponent-gt63
returns-then-exponent-gt63 c = sym (large_power c.args.base c.args.exponent c.requires c.if-exponent-gt63.true)
