use Rattle.std.proofs.Common.{refl}
use Rattle.std.proofs.lemmas.Result.{IfOk-weaker}
use Rattle.jl_meaning.specs.forms.Literals.{new_array}
use Rattle.jl_progress.specs.ArrayCalls.{turns, walk_of}
use Rattle.jl_progress.specs.declared.array_call.Task.TheVariants as task
use Rattle.jl_state.proofs.Stores.{works_comes}
use Rattle.jl_lib_array.proofs.walking.begin_filter.Goals as goal

pub returns-clause-refines : goal.returns-clause-refines
returns-clause-refines c =
    IfOk-weaker _ _ _ (λ a refines. works_comes c.args.state.now
    (record c.args.state.now { store = c.new_array.new.self }) refl new_array c.in_ok-array.array
    (λ a. turns (task.Filter a 0) (walk_of c.args.walk) 0) _ _ c.in_ok-array.ensures refines)
    c.go_on_walking.ensures.refines
