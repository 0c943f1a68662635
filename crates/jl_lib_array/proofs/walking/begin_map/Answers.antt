use Rattle.std.proofs.Common.{refl}
use Rattle.std.proofs.lemmas.Result.{IfOk-weaker}
use Rattle.jl_meaning.specs.FunctionObjects.{whole}
use Rattle.jl_meaning.specs.builtins.Elements.{array_of_length}
use Rattle.jl_progress.specs.ArrayCalls.{turns, walk_of}
use Rattle.jl_progress.specs.declared.array_call.Task.TheVariants as task
use Rattle.jl_builtin.proofs.Ends.{end_failed, end_given, end_thrown}
use Rattle.jl_lib_array.proofs.Walks.{counted}
use Rattle.jl_lib_array.proofs.walking.begin_map.Goals as goal

pub returns-in-Gives-clause-refines : goal.returns-in-Gives-clause-refines
returns-in-Gives-clause-refines c =
    IfOk-weaker _ _ _ (λ a refines. end_given c.args.state.now
    (record c.args.state.now { store = c.array_of_length.new.store }) refl (array_of_length (whole c.args.walk.length))
    (λ a. turns (task.Map a) (walk_of c.args.walk) 0) _ (counted _ _ _ c.args.walk.length _ c.in_ok-length.ensures
    c.in_ok-answer.ensures) _ _ _ c.in-Gives.is refines) c.go_on_walking.ensures.refines

pub returns-in-Throws-clause-refines : goal.returns-in-Throws-clause-refines
returns-in-Throws-clause-refines c =
    end_thrown c.args.state.now (record c.args.state.now { store = c.array_of_length.new.store }) refl
    (array_of_length (whole c.args.walk.length))
    (λ a. turns (task.Map a) (walk_of c.args.walk) 0)
    _ (counted _ _ _ c.args.walk.length _ c.in_ok-length.ensures c.in_ok-answer.ensures) _ c.in-Throws.is

pub returns-in-Fails-clause-refines : goal.returns-in-Fails-clause-refines
returns-in-Fails-clause-refines c =
    end_failed c.args.state.now (record c.args.state.now { store = c.array_of_length.new.store }) refl
    (array_of_length (whole c.args.walk.length))
    (λ a. turns (task.Map a) (walk_of c.args.walk) 0)
    _ (counted _ _ _ c.args.walk.length _ c.in_ok-length.ensures c.in_ok-answer.ensures) _ _ c.in-Fails.is
    c.fault_of.ensures
