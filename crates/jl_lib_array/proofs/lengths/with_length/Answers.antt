use Rattle.std.proofs.Common.{refl}
use Rattle.jl_lib_array.proofs.Cases.{with_any_arguments, with_function}
use Rattle.jl_lib_array.proofs.lengths.with_length.Goals as goal

pub returns-in-Join-clause-refines : goal.returns-in-Join-clause-refines
returns-in-Join-clause-refines c =
    with_function c.args.state.now _ _ c.args.function _ c.args.object c.args.args c.items.result.now c.args.length
    c.in-Join.is c.items.ensures
    c.join.ensures.refines

pub returns-in-Pop-clause-refines : goal.returns-in-Pop-clause-refines
returns-in-Pop-clause-refines c =
    with_function c.args.state.now _ _ c.args.function _ c.args.object c.args.args c.args.args c.args.length
    c.in-Pop.is refl
    c.pop_last.ensures.refines

pub returns-in-Push-clause-refines : goal.returns-in-Push-clause-refines
returns-in-Push-clause-refines c =
    with_function c.args.state.now _ _ c.args.function _ c.args.object c.args.args c.args.args c.args.length
    c.in-Push.is refl
    c.push.ensures.refines

pub returns-in-Reverse-clause-refines : goal.returns-in-Reverse-clause-refines
returns-in-Reverse-clause-refines c =
    with_any_arguments _ _ _ c.args.function _ c.args.object c.args.args c.args.length c.in-Reverse.is
    c.reverse.ensures.refines

pub returns-in-Shift-clause-refines : goal.returns-in-Shift-clause-refines
returns-in-Shift-clause-refines c =
    with_function c.args.state.now _ _ c.args.function _ c.args.object c.args.args c.args.args c.args.length
    c.in-Shift.is refl
    c.shift_first.ensures.refines

pub returns-in-Sort-clause-refines : goal.returns-in-Sort-clause-refines
returns-in-Sort-clause-refines c =
    with_any_arguments _ _ _ c.args.function _ c.args.object c.args.args c.args.length c.in-Sort.is
    c.sort.ensures.refines

pub returns-in-Splice-clause-refines : goal.returns-in-Splice-clause-refines
returns-in-Splice-clause-refines c =
    with_function c.args.state.now _ _ c.args.function _ c.args.object c.args.args c.args.args c.args.length
    c.in-Splice.is refl
    c.splice.ensures.refines

pub returns-clause-refines : goal.returns-clause-refines
returns-clause-refines c =
    with_function c.args.state.now _ _ c.args.function _ c.args.object c.args.args c.args.args c.args.length
    c.in-Unshift.is refl
    c.unshift.ensures.refines
