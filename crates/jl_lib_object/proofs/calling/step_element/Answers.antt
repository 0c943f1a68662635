use Rattle.std.proofs.lemmas.Result.{IfOk-weaker}
use Rattle.jl_lib_object.proofs.Applications.{goes_on_with}
use Rattle.jl_lib_object.proofs.calling.step_element.Goals as goal

pub returns-clause-refines : goal.returns-clause-refines
returns-clause-refines c =
    IfOk-weaker _ _ _ (λ a refines. goes_on_with c.args.function c.args.this c.args.list c.args.state.now _ _
    c.args.from
    c.args.length _ _ _ c.in_ok-push.ensures.ok refines) c.apply_from.ensures.refines
