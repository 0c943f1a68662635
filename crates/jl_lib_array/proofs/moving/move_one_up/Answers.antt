use Rattle.std.proofs.lemmas.Result.{IfOk-weaker}
use Rattle.jl_lib_array.proofs.Moved.{moves_up_missing, moves_up_there}
use Rattle.jl_lib_array.proofs.moving.move_one_up.Goals as goal

pub returns-then-branch-clause-refines : goal.returns-then-branch-clause-refines
returns-then-branch-clause-refines c =
    IfOk-weaker _ _ _ (λ a refines. moves_up_there _ _ _ c.args.moving c.args.next c.args.k _ _ c.in_ok-from.ensures
    c.in_ok-has_index.ensures c.if-branch.true refines) c.get_for.ensures.refines

pub returns-clause-refines : goal.returns-clause-refines
returns-clause-refines c =
    IfOk-weaker _ _ _ (λ a refines. moves_up_missing _ _ _ c.args.moving c.args.next c.args.k _ _ _ _
    c.in_ok-from.ensures
    c.in_ok-has_index.ensures c.if-branch.false c.in_ok-to.ensures c.in_ok-k.ensures refines)
    c.delete_then.ensures.refines
