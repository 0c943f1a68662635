use Rattle.std.proofs.lemmas.Result.{IfOk-weaker}
use Rattle.jl_lib_array.proofs.Moved.{pops_none, pops_some}
use Rattle.jl_lib_array.proofs.shifting.pop_last.Goals as goal

pub returns-then-length-eq0-clause-refines : goal.returns-then-length-eq0-clause-refines
returns-then-length-eq0-clause-refines c =
    IfOk-weaker _ _ _ (λ a refines. pops_none c.args.state.now _ _ c.args.object c.args.length c.if-length-eq0.true
    refines)
    c.give_nothing.ensures.refines

pub returns-clause-refines : goal.returns-clause-refines
returns-clause-refines c =
    IfOk-weaker _ _ _ (λ a refines. pops_some c.args.state.now _ _ c.args.object c.args.length c.if-length-eq0.false
    refines) c.get_for.ensures.refines
