use Rattle.std.proofs.lemmas.Result.{IfOk-weaker}
use Rattle.jl_lib_array.proofs.Copied.{copies_missing, copies_there}
use Rattle.jl_lib_array.proofs.copying.copy_element.Goals as goal

pub returns-then-there-clause-refines : goal.returns-then-there-clause-refines
returns-then-there-clause-refines c =
    IfOk-weaker _ _ _ (λ a refines. copies_there c.args.state.now _ _ c.args.copying c.args.next _ _
    c.in_ok-index.ensures
    c.in_ok-there.ensures c.if-there.true refines) c.get_for.ensures.refines

pub returns-clause-refines : goal.returns-clause-refines
returns-clause-refines c =
    IfOk-weaker _ _ _ (λ a refines. copies_missing c.args.state.now _ _ c.args.copying c.args.next _ _ _
    c.in_ok-index.ensures c.in_ok-there.ensures c.if-there.false c.in_ok-k.ensures refines) c.begin_turn.ensures.refines
