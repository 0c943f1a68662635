use Rattle.std.proofs.lemmas.Result.{IfOk-weaker}
use Rattle.jl_lib_array.proofs.Moved.{shifts_none, shifts_some}
use Rattle.jl_lib_array.proofs.shifting.shift_first.Goals as goal

pub returns-then-length-eq0-clause-refines : goal.returns-then-length-eq0-clause-refines
returns-then-length-eq0-clause-refines c =
    IfOk-weaker _ _ _ (λ a refines. shifts_none c.args.state.now _ _ c.args.object c.args.length c.if-length-eq0.true
    refines) c.give_nothing.ensures.refines

pub returns-clause-refines : goal.returns-clause-refines
returns-clause-refines c =
    IfOk-weaker _ _ _ (λ a refines. shifts_some c.args.state.now _ _ c.args.object c.args.length c.if-length-eq0.false
    refines) c.get_for.ensures.refines
