use Rattle.std.proofs.Common.{arith}
use Rattle.jl_parse.proofs.Limits.{placed_end, placed_token}
use Rattle.jl_parse.proofs.whole.unreadable.Goals as goal

pub returns-then-at-len : goal.returns-then-at-len
returns-then-at-len c = placed_token c.args.tokens.now c.args.at _ (omega arith) c.start.ensures

pub returns-else-at-len : goal.returns-else-at-len
returns-else-at-len c = placed_end c.args.tokens.now _ c.last_end.ensures
