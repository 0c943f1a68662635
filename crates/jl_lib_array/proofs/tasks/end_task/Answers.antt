use Rattle.std.proofs.Common.{refl}
use Rattle.std.proofs.lemmas.Result.{IfOk-weaker}
use Rattle.jl_lib_array.proofs.Answering.{any_over, nothing_reduced}
use Rattle.jl_lib_array.proofs.tasks.end_task.Goals as goal

pub returns-in-Any-clause-refines : goal.returns-in-Any-clause-refines
returns-in-Any-clause-refines c =
    any_over _ c.args.task _ c.in-Any.is

pub returns-in-None-clause-refines : goal.returns-in-None-clause-refines
returns-in-None-clause-refines c =
    IfOk-weaker _ _ _ (λ a refines. nothing_reduced _ c.args.task _ _ _ _ c.in-Reduce.is _ c.in-None.is refl refines)
    c.throw_native.ensures.refines
