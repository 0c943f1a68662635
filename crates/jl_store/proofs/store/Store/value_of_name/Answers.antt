use Rattle.std.proofs.Common.{◌∙◌, ap, sym}
use Rattle.std.specs.Prelude.{is_some}
use Rattle.jl_store.specs.Environments.{bound_to}
use Rattle.jl_store.proofs.Fuel.{environment_goes_on}
use Rattle.jl_store.proofs.ReferredValues.{binding_is, bound_here, bound_nowhere, environment_ends}
use Rattle.jl_store.proofs.store.Store.value_of_name.Goals as goal

pub returns-in-Some : goal.returns-in-Some
returns-in-Some c =
    bound_here c.args.self.now c.loop-bound.at c.args.env c.args.name.now
    (bound_to c.args.name.now c.in-Some.bound.now) c.in_ok-share.field-0
    (binding_is c.args.self.now c.loop-bound.at c.args.name.now _ _ c.binding.ensures c.in-Some.is)
    c.in_ok-share.ensures c.loop-bound.invariant

pub loop-bound-preserved : goal.loop-bound-preserved
loop-bound-preserved c =
    environment_goes_on _ c.outer_of.ensures.before _ _ _
    (ap is_some (binding_is c.args.self.now c.loop-bound.at c.args.name.now _ _ c.binding.ensures c.in_default.is))
    (sym c.outer_of.ensures.value ∙ c.in-Some-outer_of.is)
    ∙ c.loop-bound.invariant

pub returns-in-None : goal.returns-in-None
returns-in-None c =
    bound_nowhere c.args.self.now c.args.env c.args.name.now _ _
    (environment_ends _ c.outer_of.ensures.before _ _
    (ap is_some (binding_is c.args.self.now c.loop-bound.at c.args.name.now _ _ c.binding.ensures c.in_default.is))
    (sym c.outer_of.ensures.value ∙ c.in-None.is)
    ∙ c.loop-bound.invariant)
    c.value_of_global.ensures
