use Rattle.std.proofs.lemmas.Result.{IfOk-weaker}
use Rattle.jl_algorithm.proofs.Resolved.{types_value}
use Rattle.jl_algorithm.proofs.names.type_of_reference.Goals as goal

pub returns-in-InEnvironment : goal.returns-in-InEnvironment
returns-in-InEnvironment c = record {
  refines = IfOk-weaker _ _ _ (λ a refines. types_value c.args.state.now _ c.args.name.now _ _ c.in-InEnvironment.is
      refines)
      c.type_of_value.ensures.refines;
  bounded = c.type_of_value.ensures.bounded;
}
