use Rattle.std.proofs.Common.{refl, ◌+◌}
use Rattle.std.proofs.lemmas.Result.{IfOk-weaker}
use Rattle.jl_meaning.specs.builtins.Elements.{add_index}
use Rattle.jl_progress.specs.ArrayCalls.{turns, walk_of}
use Rattle.jl_progress.specs.declared.array_call.Task.TheVariants as task
use Rattle.jl_builtin.proofs.Ends.{end_failed, end_given, end_thrown}
use Rattle.jl_lib_array.proofs.Answering.{filter_place}
use Rattle.jl_lib_array.proofs.tasks.add_element.Goals as goal

pub returns-in-Gives-clause-refines : goal.returns-in-Gives-clause-refines
returns-in-Gives-clause-refines c =
    IfOk-weaker _ _ _ (λ a refines. end_given c.args.state.now
    (record c.args.state.now { store = c.add_index.new.store })
    refl (add_index c.args.array c.args.to c.args.element) (λ _. turns (task.Filter c.args.array (c.args.to + 1))
    (walk_of c.args.walk) (c.args.index + 1)) _ c.in_ok-answer.ensures _ _ _ c.in-Gives.is (filter_place _
    (walk_of c.args.walk) _ _ c.args.array _ _ _ _ c.in_ok-next.ensures c.in_ok-at.ensures refines))
    c.go_on_walking.ensures.refines

pub returns-in-Throws-clause-refines : goal.returns-in-Throws-clause-refines
returns-in-Throws-clause-refines c =
    end_thrown c.args.state.now (record c.args.state.now { store = c.add_index.new.store }) refl
    (add_index c.args.array c.args.to c.args.element)
    (λ _. turns (task.Filter c.args.array (c.args.to + 1)) (walk_of c.args.walk) (c.args.index + 1))
    _ c.in_ok-answer.ensures _ c.in-Throws.is

pub returns-in-Fails-clause-refines : goal.returns-in-Fails-clause-refines
returns-in-Fails-clause-refines c =
    end_failed c.args.state.now (record c.args.state.now { store = c.add_index.new.store }) refl
    (add_index c.args.array c.args.to c.args.element)
    (λ _. turns (task.Filter c.args.array (c.args.to + 1)) (walk_of c.args.walk) (c.args.index + 1))
    _ c.in_ok-answer.ensures _ _ c.in-Fails.is c.fault_of.ensures
