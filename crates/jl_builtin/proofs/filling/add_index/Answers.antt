use Rattle.jl_builtin.proofs.Fills.{index_added, index_failed, index_thrown}
use Rattle.jl_builtin.proofs.filling.add_index.Goals as goal

pub returns-in-Gives : goal.returns-in-Gives
returns-in-Gives c =
    index_added c.args.array c.args.index c.args.v _ _ _ _ c.in_ok-name.ensures c.plain_change-change.ensures _
    c.in_ok-answer.ensures _ c.in-Gives.is

pub returns-in-Throws : goal.returns-in-Throws
returns-in-Throws c =
    index_thrown c.args.array c.args.index c.args.v _ _ _ _ c.in_ok-name.ensures c.plain_change-change.ensures _
    c.in_ok-answer.ensures _ c.in-Throws.is

pub returns : goal.returns
returns c =
    index_failed c.args.array c.args.index c.args.v _ _ _ _ c.in_ok-name.ensures c.plain_change-change.ensures _
    c.in_ok-answer.ensures _ c.in-Fails.is
