use Rattle.std.proofs.lemmas.Result.{IfOk-weaker}
use Rattle.jl_algorithm.proofs.Resolved.{puts_name}
use Rattle.jl_algorithm.proofs.names.put_name.Goals as goal

pub returns-clause-refines : goal.returns-clause-refines
returns-clause-refines c =
    IfOk-weaker _ _ _ (λ a refines. puts_name c.args.state.now c.args.strict c.args.env c.args.name.now c.args.v
    c.args.gives _ _ _ c.identifier_reference-reference.ensures refines) c.put_value.ensures.refines
