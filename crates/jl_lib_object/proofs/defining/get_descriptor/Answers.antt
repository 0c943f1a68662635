use Rattle.std.proofs.Common.{refl}
use Rattle.std.proofs.lemmas.Result.{IfOk-weaker}
use Rattle.jl_lib_object.proofs.Definitions.{gets_descriptor}
use Rattle.jl_lib_object.proofs.defining.get_descriptor.Goals as goal

pub returns-clause-refines : goal.returns-clause-refines
returns-clause-refines c =
    IfOk-weaker _ _ _ (λ a refines. (c.if-not-spend.ensures.took refl).works _ _ _
    (gets_descriptor _ _ _ _ _ _ _ _ _ _ _
    c.in_ok-key.ensures c.in_ok-wait_object.ensures.waits refines)) c.get.ensures.refines
