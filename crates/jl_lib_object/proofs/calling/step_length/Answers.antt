use Rattle.std.proofs.lemmas.Result.{IfOk-weaker}
use Rattle.jl_lib_object.proofs.Applications.{converts_length}
use Rattle.jl_lib_object.proofs.calling.step_length.Goals as goal

pub returns-clause-refines : goal.returns-clause-refines
returns-clause-refines c =
    IfOk-weaker _ _ _ (λ a refines. converts_length _ _ _ _ _ c.args.v _ _ c.in_ok-wait_function.ensures.waits refines)
    c.to_primitive.ensures.refines
