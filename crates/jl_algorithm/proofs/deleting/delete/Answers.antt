use Rattle.jl_algorithm.proofs.Deletes.{throws_kept}
use Rattle.jl_algorithm.proofs.deleting.delete.Goals as goal

pub returns-clause-comes : goal.returns-clause-comes
returns-clause-comes c =
    throws_kept _ _ _ _ _ _ _ _ _ c.if-not-throwing.false c.if-free.false c.in_ok-message.ensures
    c.delete_on-free.ensures c.in_ok-thrown.ensures
