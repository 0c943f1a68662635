use Rattle.std.proofs.Common.{refl}
use Rattle.jl_meaning.specs.Parts.{◌>>=◌}
use Rattle.jl_meaning.specs.builtins.Arguments.{give_object}
use Rattle.jl_meaning.specs.builtins.Array.{add_all}
use Rattle.jl_meaning.specs.forms.Literals.{new_array}
use Rattle.jl_state.proofs.Stores.{works_comes}
use Rattle.jl_builtin.proofs.Ends.{end_failed, end_given, end_thrown}
use Rattle.jl_lib_array.proofs.arrays.array_of_values.Goals as goal

pub returns-in-Gives-clause-refines : goal.returns-in-Gives-clause-refines
returns-in-Gives-clause-refines c =
    works_comes c.args.state.now (record c.args.state.now { store = c.new_array.new.self }) refl new_array
    c.in_ok-array.array
    (λ a. add_all a 0 c.args.values.now >>= λ _. give_object a) _ _ c.in_ok-array.ensures
    (end_given (record c.args.state.now { store = c.new_array.new.self })
    (record c.args.state.now { store = c.add_all.new.store })
    refl (add_all c.in_ok-array.array 0 c.args.values.now) (λ _. give_object c.in_ok-array.array) _
    c.in_ok-answer.ensures _ _ _ c.in-Gives.is (record { is = λ kept told. refl }))

pub returns-in-Throws-clause-refines : goal.returns-in-Throws-clause-refines
returns-in-Throws-clause-refines c =
    works_comes c.args.state.now (record c.args.state.now { store = c.new_array.new.self }) refl new_array
    c.in_ok-array.array
    (λ a. add_all a 0 c.args.values.now >>= λ _. give_object a) _ _ c.in_ok-array.ensures
    (end_thrown (record c.args.state.now { store = c.new_array.new.self })
    (record c.args.state.now { store = c.add_all.new.store })
    refl (add_all c.in_ok-array.array 0 c.args.values.now) (λ _. give_object c.in_ok-array.array) _
    c.in_ok-answer.ensures _ c.in-Throws.is)

pub returns-in-Fails-clause-refines : goal.returns-in-Fails-clause-refines
returns-in-Fails-clause-refines c =
    works_comes c.args.state.now (record c.args.state.now { store = c.new_array.new.self }) refl new_array
    c.in_ok-array.array
    (λ a. add_all a 0 c.args.values.now >>= λ _. give_object a) _ _ c.in_ok-array.ensures
    (end_failed (record c.args.state.now { store = c.new_array.new.self })
    (record c.args.state.now { store = c.add_all.new.store })
    refl (add_all c.in_ok-array.array 0 c.args.values.now) (λ _. give_object c.in_ok-array.array) _
    c.in_ok-answer.ensures _ _ c.in-Fails.is c.fault_of.ensures)
