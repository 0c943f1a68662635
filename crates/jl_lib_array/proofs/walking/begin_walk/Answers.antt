use Rattle.std.proofs.Common.{ap, refl, ◌∙◌}
use Rattle.std.proofs.lemmas.Result.{IfOk-weaker}
use Rattle.jl_progress.specs.ArrayCalls.{argument_of}
use Rattle.jl_lib_array.proofs.Walks.{function_given, no_function}
use Rattle.jl_lib_array.proofs.walking.begin_walk.Goals as goal

pub returns-in-Throws-clause-refines : goal.returns-in-Throws-clause-refines
returns-in-Throws-clause-refines c =
    no_function c.args.state.now (record c.args.state.now { store = c.function_in.new.store }) refl c.args.purpose
    c.args.object c.args.length c.args.args.now _ c.in_ok-answer.ensures _ c.in-Throws.is

pub returns-in_ok-this-in-Gives-clause-refines : goal.returns-in_ok-this-in-Gives-clause-refines
returns-in_ok-this-in-Gives-clause-refines c =
    IfOk-weaker _ _ _ (λ a refines. function_given c.args.state.now
    (record c.args.state.now { store = c.function_in.new.store }) refl c.args.purpose c.args.object c.args.length
    c.args.args.now _ c.in_ok-answer.ensures _ _ _ _ c.in-Gives.is (c.in_ok-this-in-Gives.ensures ∙ ap
    (λ l. argument_of l 1) c.items.ensures) refines) c.begin_task.ensures.refines
