use Rattle.std.proofs.lemmas.Result.{IfOk-weaker}
use Rattle.jl_lib_array.proofs.Joined.{joins_none, joins_some}
use Rattle.jl_lib_array.proofs.joining.join_elements.Goals as goal

pub returns-then-length-eq0-clause-refines : goal.returns-then-length-eq0-clause-refines
returns-then-length-eq0-clause-refines c =
    joins_none c.args.state.now c.args.object c.args.length c.args.separator _ c.if-length-eq0.true c.in_ok-word.ensures

pub returns-clause-refines : goal.returns-clause-refines
returns-clause-refines c =
    IfOk-weaker _ _ _ (λ a refines. joins_some c.args.state.now _ _ c.args.object c.args.length c.args.separator
    c.if-length-eq0.false refines) c.get_for.ensures.refines
