use Rattle.std.proofs.Common.{ap, sym, ◌∙◌}
use Rattle.std.proofs.lemmas.Result.{IfOk-weaker}
use Rattle.jl_algorithm.specs.inner.PutPlans.{found_setter}
use Rattle.jl_algorithm.proofs.Puts.{calls_found}
use Rattle.jl_meaning.specs.Properties.{property_of_value}
use Rattle.jl_algorithm.proofs.putting.put_on_primitive.Goals as goal

pub returns-in-Some-clause-refines : goal.returns-in-Some-clause-refines
returns-in-Some-clause-refines c =
    IfOk-weaker _ _ _ (λ a refines. calls_found c.args.state.now c.args.base c.args.v
    (property_of_value c.args.state.now.store c.args.base c.args.name.now) _ c.args.throwing c.args.gives _ _
    (ap found_setter (sym c.property_of_value.ensures) ∙ sym c.found_setter.ensures ∙ c.in-Some.is) refines)
    c.call_setter.ensures.refines
