use Rattle.std.proofs.Common.{refl}
use Rattle.jl_literal.proofs.Lengths.{length_failed, length_given, length_thrown}
use Rattle.jl_literal.proofs.array_literals.end_array.Goals as goal

pub returns-in-Gives-clause-refines : goal.returns-in-Gives-clause-refines
returns-in-Gives-clause-refines c =
    length_given c.args.state.now (record c.args.state.now { store = c.define_own_property.new.self }) refl c.args.array
    c.args.length _ _ _ c.in_ok-name.ensures c.in_ok-number.ensures c.value_change-change.ensures _
    c.in_ok-answer.ensures _ _ _
    c.in-Gives.is (c.give_array.ensures.refines _ refl)

pub returns-in-Throws-clause-refines : goal.returns-in-Throws-clause-refines
returns-in-Throws-clause-refines c =
    length_thrown c.args.state.now (record c.args.state.now { store = c.define_own_property.new.self }) refl
    c.args.array
    c.args.length _ _ _ c.in_ok-name.ensures c.in_ok-number.ensures c.value_change-change.ensures _
    c.in_ok-answer.ensures _
    c.in-Throws.is

pub returns-clause-refines : goal.returns-clause-refines
returns-clause-refines c =
    length_failed c.args.state.now (record c.args.state.now { store = c.define_own_property.new.self }) refl
    c.args.array
    c.args.length _ _ _ c.in_ok-name.ensures c.in_ok-number.ensures c.value_change-change.ensures _
    c.in_ok-answer.ensures _ _
    c.in-Fails.is c.fault_of.ensures
