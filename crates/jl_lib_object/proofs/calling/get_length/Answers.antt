use Rattle.std.proofs.lemmas.Result.{IfOk-weaker}
use Rattle.jl_lib_object.proofs.Applications.{gets_length}
use Rattle.jl_lib_object.proofs.calling.get_length.Goals as goal

pub returns-clause-refines : goal.returns-clause-refines
returns-clause-refines c =
    IfOk-weaker _ _ _ (λ a refines. gets_length _ _ _ _ _ _ _ _ c.in_ok-name.ensures c.in_ok-wait_function.ensures.waits
    refines) c.get.ensures.refines
