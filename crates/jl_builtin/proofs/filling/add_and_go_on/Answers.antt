use Rattle.std.proofs.Common.{drop, refl}
use Rattle.std.proofs.lemmas.Result.{IfOk-weaker}
use Rattle.jl_meaning.specs.Parts.{◌>>=◌}
use Rattle.jl_meaning.specs.builtins.Arguments.{give_object}
use Rattle.jl_meaning.specs.builtins.Elements.{add_in_turns, add_index}
use Rattle.jl_builtin.proofs.Ends.{end_failed, end_given, end_thrown}
use Rattle.jl_builtin.proofs.filling.add_and_go_on.Goals as goal

pub returns-in-Gives-clause-refines : goal.returns-in-Gives-clause-refines
returns-in-Gives-clause-refines c =
    IfOk-weaker _ _ _ (λ a refines.
    end_given c.args.state.now (record c.args.state.now { store = c.add_index.new.store }) refl
    (add_index c.args.array c.args.index c.args.v)
    (λ _. add_in_turns c.args.array c.args.next (drop c.args.next c.args.values) >>= λ _. give_object c.args.array)
    _ c.in_ok-answer.ensures _ _ _ c.in-Gives.is refines) c.go_on.ensures.refines

pub returns-in-Throws-clause-refines : goal.returns-in-Throws-clause-refines
returns-in-Throws-clause-refines c =
    end_thrown c.args.state.now (record c.args.state.now { store = c.add_index.new.store }) refl
    (add_index c.args.array c.args.index c.args.v)
    (λ _. add_in_turns c.args.array c.args.next (drop c.args.next c.args.values) >>= λ _. give_object c.args.array)
    _ c.in_ok-answer.ensures _ c.in-Throws.is

pub returns-in-Fails-clause-refines : goal.returns-in-Fails-clause-refines
returns-in-Fails-clause-refines c =
    end_failed c.args.state.now (record c.args.state.now { store = c.add_index.new.store }) refl
    (add_index c.args.array c.args.index c.args.v)
    (λ _. add_in_turns c.args.array c.args.next (drop c.args.next c.args.values) >>= λ _. give_object c.args.array)
    _ c.in_ok-answer.ensures _ _ c.in-Fails.is c.fault_of.ensures
