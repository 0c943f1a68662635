use Rattle.std.proofs.lemmas.Result.{IfOk-weaker}
use Rattle.jl_lib_object.proofs.Listings.{fills_names}
use Rattle.jl_lib_object.proofs.own_names.array_of_names.Goals as goal

pub returns-clause-refines : goal.returns-clause-refines
returns-clause-refines c =
    IfOk-weaker _ _ _ (λ a refines. fills_names _ _ _ _ _ _ _ c.in_ok-values.ensures c.in_ok-array.ensures refines)
    c.fill_array.ensures.refines
