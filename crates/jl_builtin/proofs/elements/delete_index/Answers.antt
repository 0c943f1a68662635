use Rattle.jl_builtin.proofs.Fills.{index_deleted, index_kept}
use Rattle.jl_builtin.proofs.elements.delete_index.Goals as goal

pub returns-in-Gives-clause-comes : goal.returns-in-Gives-clause-comes
returns-in-Gives-clause-comes c =
    index_deleted c.args.object c.args.index _ _ _ c.in_ok-name.ensures _ c.in_ok-answer.ensures.comes _ c.in-Gives.is

pub returns-clause-comes : goal.returns-clause-comes
returns-clause-comes c =
    index_kept c.args.object c.args.index _ _ _ c.in_ok-name.ensures _ c.in_ok-answer.ensures.comes _ c.in-Throws.is
