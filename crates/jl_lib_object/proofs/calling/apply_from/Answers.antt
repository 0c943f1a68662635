use Rattle.std.proofs.Common.{refl}
use Rattle.std.proofs.lemmas.Result.{IfOk-weaker}
use Rattle.jl_state.proofs.Acts.{works_act}
use Rattle.jl_builtin.proofs.Calls.{calls_now}
use Rattle.jl_lib_object.proofs.Applications.{applies, applies_element}
use Rattle.jl_lib_object.proofs.calling.apply_from.Goals as goal

pub returns-then-from-length-clause-refines : goal.returns-then-from-length-clause-refines
returns-then-from-length-clause-refines c =
    IfOk-weaker _ _ _ (λ a refines. applies_element c.args.function c.args.this c.args.list c.args.state.now c.args.args
    _ _ _ _ c.if-from-length.true refines) c.get_element.ensures.refines

pub returns-clause-refines : goal.returns-clause-refines
returns-clause-refines c =
    works_act _ _ _ _ c.call.ensures _
    (applies _ _ _ _ _ _ _ _ _ c.if-from-length.false (calls_now _ _ _ _ _ _ refl refl))
