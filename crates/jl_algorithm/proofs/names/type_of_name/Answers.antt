use Rattle.std.proofs.lemmas.Result.{IfOk-weaker}
use Rattle.jl_algorithm.proofs.Resolved.{types_name}
use Rattle.jl_algorithm.proofs.names.type_of_name.Goals as goal

pub returns-clause-refines : goal.returns-clause-refines
returns-clause-refines c =
    IfOk-weaker _ _ _ (λ a refines. types_name c.args.state.now c.args.env c.args.name.now _ _ _
    c.identifier_reference-reference.ensures refines) c.type_of_reference.ensures.refines
