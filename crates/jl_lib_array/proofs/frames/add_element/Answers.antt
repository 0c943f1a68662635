use Rattle.std.proofs.Common.{refl}
use Rattle.jl_value.specs.declared.value.Value.TheVariants as value
use Rattle.jl_meaning.specs.Parts.{give}
use Rattle.jl_meaning.specs.builtins.Elements.{add_index}
use Rattle.jl_builtin.proofs.Ends.{end_failed, end_given, end_thrown}
use Rattle.jl_lib_array.proofs.frames.add_element.Goals as goal

pub returns-in-Gives-clause-refines : goal.returns-in-Gives-clause-refines
returns-in-Gives-clause-refines c =
    end_given c.args.state.now (record c.args.state.now { store = c.add_index.new.store }) refl
    (add_index c.args.array c.args.index c.args.v) (λ _. give value.Undefined) _ c.in_ok-answer.ensures _ _ _
    c.in-Gives.is (record { is = λ kept told. refl })

pub returns-in-Throws-clause-refines : goal.returns-in-Throws-clause-refines
returns-in-Throws-clause-refines c =
    end_thrown c.args.state.now (record c.args.state.now { store = c.add_index.new.store }) refl
    (add_index c.args.array c.args.index c.args.v) (λ _. give value.Undefined) _ c.in_ok-answer.ensures _ c.in-Throws.is

pub returns-in-Fails-clause-refines : goal.returns-in-Fails-clause-refines
returns-in-Fails-clause-refines c =
    end_failed c.args.state.now (record c.args.state.now { store = c.add_index.new.store }) refl
    (add_index c.args.array c.args.index c.args.v) (λ _. give value.Undefined) _ c.in_ok-answer.ensures _ _
    c.in-Fails.is c.fault_of.ensures
