use Rattle.std.proofs.Common.{ap, Some}
use Rattle.std.proofs.lemmas.Result.{IfOk-weaker}
use Rattle.jl_progress.specs.ArrayCalls.{walk_of}
use Rattle.jl_progress.specs.declared.array_call.Task.TheVariants as task
use Rattle.jl_lib_array.proofs.Answering.{first_combines, task_is}
use Rattle.jl_lib_array.proofs.tasks.combine.Goals as goal

pub returns-in-None-clause-refines : goal.returns-in-None-clause-refines
returns-in-None-clause-refines c =
    IfOk-weaker _ _ _ (λ a refines. first_combines _
    (walk_of c.args.walk) _ _ c.args.so_far c.args.direction c.args.index
    c.args.v c.in-None.is refines) c.go_on_reducing.ensures.refines

pub returns-in-Some-clause-refines : goal.returns-in-Some-clause-refines
returns-in-Some-clause-refines c =
    IfOk-weaker _ _ _ (λ a refines. task_is _ (walk_of c.args.walk) _ _ (task.Reduce c.args.so_far c.args.direction)
    (task.Reduce (Some c.in-Some.so_far) c.args.direction) c.args.index (Some c.args.v)
    (ap (λ o. task.Reduce o c.args.direction) c.in-Some.is) refines) c.call_to_combine.ensures.refines
