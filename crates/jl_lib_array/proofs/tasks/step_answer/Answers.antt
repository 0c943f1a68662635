use Rattle.std.proofs.lemmas.Result.{IfOk-weaker}
use Rattle.jl_progress.specs.ArrayCalls.{walk_of}
use Rattle.jl_progress.specs.declared.array_call.Task.TheVariants as task
use Rattle.jl_lib_array.proofs.Answering.{after_is, place_is}
use Rattle.jl_lib_array.proofs.tasks.step_answer.Goals as goal

pub returns-in-Any-clause-refines : goal.returns-in-Any-clause-refines
returns-in-Any-clause-refines c =
    IfOk-weaker _ _ _ (λ a refines. after_is _ (walk_of c.args.walk) _ _ c.args.task _ c.args.index c.args.element
    c.args.v c.in-Any.is refines) c.answer_any.ensures.refines

pub returns-in-ForEach-clause-refines : goal.returns-in-ForEach-clause-refines
returns-in-ForEach-clause-refines c =
    IfOk-weaker _ _ _ (λ a refines. after_is _ (walk_of c.args.walk) _ _ c.args.task _ c.args.index c.args.element
    c.args.v c.in-ForEach.is (place_is _ (walk_of c.args.walk) _ _ task.ForEach _ _
    c.in_ok-next_index-in-ForEach.ensures refines)) c.go_on_walking.ensures.refines

pub returns-in-Map-clause-refines : goal.returns-in-Map-clause-refines
returns-in-Map-clause-refines c =
    IfOk-weaker _ _ _ (λ a refines. after_is _ (walk_of c.args.walk) _ _ c.args.task _ c.args.index c.args.element
    c.args.v c.in-Map.is refines) c.add_answer.ensures.refines

pub returns-in-Filter-clause-refines : goal.returns-in-Filter-clause-refines
returns-in-Filter-clause-refines c =
    IfOk-weaker _ _ _ (λ a refines. after_is _ (walk_of c.args.walk) _ _ c.args.task _ c.args.index c.args.element
    c.args.v c.in-Filter.is refines) c.answer_filter.ensures.refines

pub returns-clause-refines : goal.returns-clause-refines
returns-clause-refines c =
    IfOk-weaker _ _ _ (λ a refines. after_is _ (walk_of c.args.walk) _ _ c.args.task _ c.args.index c.args.element
    c.args.v c.in-Reduce.is refines) c.go_on_reducing.ensures.refines
