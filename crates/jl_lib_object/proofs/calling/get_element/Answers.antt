use Rattle.std.proofs.Common.{refl}
use Rattle.std.proofs.lemmas.Result.{IfOk-weaker}
use Rattle.jl_lib_object.proofs.calling.get_element.Goals as goal

pub returns-clause-refines : goal.returns-clause-refines
returns-clause-refines c =
    IfOk-weaker _ _ _ (λ a refines. (c.if-not-spend.ensures.took refl).works _ _ _
    (c.in_ok-wait_function.ensures.waits.works _ _ _ refines)) c.get_index.ensures.refines
