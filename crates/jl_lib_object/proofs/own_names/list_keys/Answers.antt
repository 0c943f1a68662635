use Rattle.std.proofs.Common.{◌∙◌}
use Rattle.std.proofs.lemmas.Result.{IfOk-weaker}
use Rattle.jl_meaning.specs.builtins.Object.{array_of_names}
use Rattle.jl_lib_object.proofs.Ends.{works_of}
use Rattle.jl_lib_object.proofs.own_names.list_keys.Goals as goal

pub returns-clause-refines : goal.returns-clause-refines
returns-clause-refines c =
    IfOk-weaker _ _ _ (λ a refines. works_of _ array_of_names _ _ _ _ (c.items.ensures ∙ c.in_ok-names.ensures) refines)
    c.array_of_names.ensures.refines
