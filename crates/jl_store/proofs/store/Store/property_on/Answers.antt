use Rattle.std.proofs.Common.{ap, sym, ◌∙◌}
use Rattle.std.specs.Prelude.{option_map}
use Rattle.jl_store.specs.LookUps.{property_found}
use Rattle.jl_store.proofs.Fuel.{found_further, found_here}
use Rattle.jl_store.proofs.store.Store.property_on.Goals as goal

pub returns-in-Some : goal.returns-in-Some
returns-in-Some c =
    sym (found_here _ c.proto_of-proto.ensures.older _ _ _
    (sym c.get_own_property.ensures ∙ ap (option_map property_found) c.in-Some.is))
    ∙ c.loop-found.invariant

pub loop-found-preserved : goal.loop-found-preserved
loop-found-preserved c =
    sym (found_further _ c.proto_of-proto.ensures.older _ _ _
    (sym c.get_own_property.ensures ∙ ap (option_map property_found) c.in_default.is)
    (sym c.proto_of-proto.ensures.value ∙ c.in_ok-at.was))
    ∙ c.loop-found.invariant
