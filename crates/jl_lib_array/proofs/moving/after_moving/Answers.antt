use Rattle.std.proofs.lemmas.Result.{IfOk-weaker}
use Rattle.jl_lib_array.proofs.Moved.{moved_delete, moved_put, moved_shift, moved_unshift}
use Rattle.jl_lib_array.proofs.moving.after_moving.Goals as goal

pub returns-in-Shift-clause-refines : goal.returns-in-Shift-clause-refines
returns-in-Shift-clause-refines c =
    IfOk-weaker _ _ _ (λ a refines. moved_shift _ _ _ c.args.object c.args.next _ _ c.in-Shift.is refines)
    c.without_last.ensures.refines

pub returns-in-Delete-clause-refines : goal.returns-in-Delete-clause-refines
returns-in-Delete-clause-refines c =
    IfOk-weaker _ _ _ (λ a refines. moved_delete _ _ _ c.args.object c.args.next _ _ _ c.in-Delete.is c.len.ensures
    c.saturating_sub-left.ensures refines) c.begin_turn.ensures.refines

pub returns-in-Put-clause-refines : goal.returns-in-Put-clause-refines
returns-in-Put-clause-refines c =
    IfOk-weaker _ _ _ (λ a refines. moved_put _ _ _ c.args.object c.args.next _ c.in-Put.is refines)
    c.put_items.ensures.refines

pub returns-in-Unshift-clause-refines : goal.returns-in-Unshift-clause-refines
returns-in-Unshift-clause-refines c =
    IfOk-weaker _ _ _ (λ a refines. moved_unshift _ _ _ c.args.object c.args.next _ _ c.in-Unshift.is refines)
    c.begin_turn-in-Unshift.ensures.refines
