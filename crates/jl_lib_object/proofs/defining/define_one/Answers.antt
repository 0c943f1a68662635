use Rattle.std.proofs.Common.{◌∙◌}
use Rattle.std.proofs.lemmas.Result.{IfOk-weaker}
use Rattle.jl_value.specs.declared.value.Value.TheVariants as value
use Rattle.jl_lib_object.proofs.Definitions.{defines_named}
use Rattle.jl_lib_object.proofs.defining.define_one.Goals as goal

pub returns-clause-refines : goal.returns-clause-refines
returns-clause-refines c =
    IfOk-weaker _ _ _ (λ a refines. defines_named _ _ c.args.named.now _ _ value.Undefined _ _ _ c.name.ensures
    (c.in_ok-change.ensures ∙ c.change.ensures.value) (c.in_ok-wait_object.ensures.waits.works _ _ _ refines))
    c.define_own_property.ensures.refines
