use Rattle.std.proofs.Common.{Some}
use Rattle.std.proofs.lemmas.Result.{IfOk-weaker}
use Rattle.jl_progress.specs.ArrayCalls.{walk_of}
use Rattle.jl_progress.specs.declared.array_call.Task.TheVariants as task
use Rattle.jl_lib_array.proofs.Answering.{asks_task, task_is}
use Rattle.jl_lib_array.proofs.tasks.step_element.Goals as goal

pub returns-in-Any-clause-refines : goal.returns-in-Any-clause-refines
returns-in-Any-clause-refines c =
    IfOk-weaker _ _ _ (λ a refines. asks_task _
    (walk_of c.args.walk) _ _ c.args.task _ c.args.index c.args.v c.in-Any.is
    tt refines) c.ask.ensures.refines

pub returns-in-ForEach-clause-refines : goal.returns-in-ForEach-clause-refines
returns-in-ForEach-clause-refines c =
    IfOk-weaker _ _ _ (λ a refines. asks_task _ (walk_of c.args.walk) _ _ c.args.task _ c.args.index c.args.v
    c.in-ForEach.is tt refines) c.ask-in-ForEach.ensures.refines

pub returns-in-Map-clause-refines : goal.returns-in-Map-clause-refines
returns-in-Map-clause-refines c =
    IfOk-weaker _ _ _ (λ a refines. asks_task _
    (walk_of c.args.walk) _ _ c.args.task _ c.args.index c.args.v c.in-Map.is
    tt refines) c.ask-in-Map.ensures.refines

pub returns-in-Filter-clause-refines : goal.returns-in-Filter-clause-refines
returns-in-Filter-clause-refines c =
    IfOk-weaker _ _ _ (λ a refines. asks_task _ (walk_of c.args.walk) _ _ c.args.task _ c.args.index c.args.v
    c.in-Filter.is tt refines) c.ask-in-Filter.ensures.refines

pub returns-in-Reduce-clause-refines : goal.returns-in-Reduce-clause-refines
returns-in-Reduce-clause-refines c =
    IfOk-weaker _ _ _ (λ a refines. task_is _ (walk_of c.args.walk) _ a c.args.task
    (task.Reduce c.in-Reduce.so_far c.in-Reduce.direction) c.args.index (Some c.args.v) c.in-Reduce.is refines)
    c.combine.ensures.refines
