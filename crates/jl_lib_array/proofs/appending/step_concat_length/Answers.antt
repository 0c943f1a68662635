use Rattle.std.proofs.lemmas.Result.{IfOk-weaker}
use Rattle.jl_lib_array.proofs.Appended.{copies_items}
use Rattle.jl_lib_array.proofs.appending.step_concat_length.Goals as goal

pub returns-clause-refines : goal.returns-clause-refines
returns-clause-refines c =
    IfOk-weaker _ _ _ (λ a refines. copies_items c.args.state.now _ _ c.args.array c.args.item c.args.next _ _
    c.args.from
    c.args.items c.args.v.now c.count_of-left.ensures c.in_ok-after.ensures refines) c.begin_turn.ensures.refines
