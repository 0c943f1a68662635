use Rattle.std.proofs.lemmas.Result.{IfOk-weaker}
use Rattle.jl_progress.specs.ArrayCalls.{walk_of}
use Rattle.jl_lib_array.proofs.TaskTurns.{element_added, element_left}
use Rattle.jl_lib_array.proofs.tasks.answer_filter.Goals as goal

pub returns-then-to_boolean-clause-refines : goal.returns-then-to_boolean-clause-refines
returns-then-to_boolean-clause-refines c =
    IfOk-weaker _ _ _ (λ a refines. element_added _ (walk_of c.args.walk) _ _ c.args.array c.args.to c.args.index
    c.args.element c.args.v.now _ c.to_boolean.ensures c.if-to_boolean.true refines) c.add_element.ensures.refines

pub returns-clause-refines : goal.returns-clause-refines
returns-clause-refines c =
    IfOk-weaker _ _ _ (λ a refines. element_left _ (walk_of c.args.walk) _ _ c.args.array c.args.to c.args.index _
    c.args.element c.args.v.now _ c.to_boolean.ensures c.if-to_boolean.false c.in_ok-at.ensures refines)
    c.go_on_walking.ensures.refines
