use Rattle.std.proofs.Common.{refl}
use Rattle.std.proofs.lemmas.Result.{IfOk-weaker}
use Rattle.jl_value.specs.declared.value.Value.TheVariants as value
use Rattle.jl_meaning.specs.builtins.Arguments.{give_object}
use Rattle.jl_meaning.specs.builtins.Elements.{array_of_length}
use Rattle.jl_builtin.proofs.Ends.{end_failed, end_given, end_thrown}
use Rattle.jl_lib_array.proofs.NewArrays.{bad_length, fits_length}
use Rattle.jl_lib_array.proofs.arrays.array_of_number.Goals as goal

pub returns-then-not-is_length-clause-refines : goal.returns-then-not-is_length-clause-refines
returns-then-not-is_length-clause-refines c =
    IfOk-weaker _ _ _ (λ a refines. bad_length _ c.args.n _ c.is_length.ensures _ _ c.if-not-is_length.true refines)
    c.throw_native.ensures.refines

pub returns-in-Gives-clause-refines : goal.returns-in-Gives-clause-refines
returns-in-Gives-clause-refines c =
    fits_length _ c.args.n _ c.is_length.ensures _ _ c.if-not-is_length.false
    (end_given c.args.state.now (record c.args.state.now { store = c.array_of_length.new.store }) refl
    (array_of_length (value.Num c.args.n)) give_object _ c.in_ok-answer.ensures _ _ _ c.in-Gives.is
    (record { is = λ kept told. refl }))

pub returns-in-Throws-clause-refines : goal.returns-in-Throws-clause-refines
returns-in-Throws-clause-refines c =
    fits_length _ c.args.n _ c.is_length.ensures _ _ c.if-not-is_length.false
    (end_thrown c.args.state.now (record c.args.state.now { store = c.array_of_length.new.store }) refl
    (array_of_length (value.Num c.args.n)) give_object _ c.in_ok-answer.ensures _ c.in-Throws.is)

pub returns-in-Fails-clause-refines : goal.returns-in-Fails-clause-refines
returns-in-Fails-clause-refines c =
    fits_length _ c.args.n _ c.is_length.ensures _ _ c.if-not-is_length.false
    (end_failed c.args.state.now (record c.args.state.now { store = c.array_of_length.new.store }) refl
    (array_of_length (value.Num c.args.n)) give_object _ c.in_ok-answer.ensures _ _ c.in-Fails.is c.fault_of.ensures)
