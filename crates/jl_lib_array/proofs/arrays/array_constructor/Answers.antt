use Rattle.std.proofs.lemmas.Result.{IfOk-weaker}
use Rattle.jl_lib_array.proofs.NewArrays.{constructs_length, constructs_values}
use Rattle.jl_lib_array.proofs.arrays.array_constructor.Goals as goal

pub returns-in-Some-clause-refines : goal.returns-in-Some-clause-refines
returns-in-Some-clause-refines c =
    IfOk-weaker _ _ _ (λ a refines. constructs_length _ c.args.args.now _ _ _ _ c.only_number-number.ensures
    c.in-Some.is
    refines) c.array_of_number.ensures.refines

pub returns-in-None-clause-refines : goal.returns-in-None-clause-refines
returns-in-None-clause-refines c =
    IfOk-weaker _ _ _ (λ a refines. constructs_values _ c.args.args.now _ _ _ c.only_number-number.ensures c.in-None.is
    refines) c.array_of_values.ensures.refines
