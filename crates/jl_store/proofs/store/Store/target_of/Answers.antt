use Rattle.std.proofs.Common.{sym, ◌∙◌}
use Rattle.jl_store.proofs.Fuel.{bound_goes_on}
use Rattle.jl_store.proofs.store.Store.target_of.Goals as goal

pub loop-target-preserved : goal.loop-target-preserved
loop-target-preserved c =
    bound_goes_on _ c.loop-target.at c.in-Bound.target _ _ (sym c.inner_of.ensures ∙ c.in-Bound.is) c.if-target-at.false
    ∙ c.loop-target.invariant
