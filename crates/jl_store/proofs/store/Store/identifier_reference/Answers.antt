use Rattle.std.proofs.Common.{sym, ◌∙◌}
use Rattle.jl_store.proofs.Fuel.{environment_goes_on}
use Rattle.jl_store.proofs.store.Store.identifier_reference.Goals as goal

pub loop-env-preserved : goal.loop-env-preserved
loop-env-preserved c =
    environment_goes_on _ c.outer_of.ensures.before _ _ _ (sym c.has_binding.ensures ∙ c.if-has_binding.false)
    (sym c.outer_of.ensures.value ∙ c.in-Some.is)
    ∙ c.loop-env.invariant
