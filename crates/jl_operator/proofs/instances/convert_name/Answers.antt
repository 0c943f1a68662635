use Rattle.std.proofs.Common.{refl}
use Rattle.std.proofs.lemmas.Result.{IfOk-weaker}
use Rattle.jl_meaning.specs.Parts.{look, ◌>>=◌}
use Rattle.jl_meaning.specs.Properties.{has_property}
use Rattle.jl_meaning.specs.Relations.{give_truth}
use Rattle.jl_operator.proofs.Operands.{text_waits}
use Rattle.jl_operator.proofs.instances.convert_name.Goals as goal

pub returns-clause-refines : goal.returns-clause-refines
returns-clause-refines c =
    IfOk-weaker _ _ _ (λ a refines. text_waits c.args.state.now _ _ _
    (λ x. look >>= λ store. give_truth (has_property store c.args.object.0 x)) c.args.name _ (λ p. refl)
    c.in_ok-push_algorithm.ensures.waits refines) c.to_primitive.ensures.refines
