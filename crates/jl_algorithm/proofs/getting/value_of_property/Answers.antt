use Rattle.std.proofs.Common.{sym, ◌∙◌}
use Rattle.jl_store.specs.LookUps.{property_found}
use Rattle.jl_algorithm.proofs.Found.{calls_found}
use Rattle.jl_algorithm.proofs.getting.value_of_property.Goals as goal

pub returns-in_ok-share-in-Some-getter-clause-refines : goal.returns-in_ok-share-in-Some-getter-clause-refines
returns-in_ok-share-in-Some-getter-clause-refines c =
    calls_found c.call.result c.args.this.now c.in_ok-share-in-Some-getter.field-0 c.args.property.now.own
    (property_found c.args.property.now.found) c.in-Some-getter.getter c.new.result c.call.ensures
    (sym c.in_ok-value.ensures ∙ c.in_default.is) (sym c.getter.ensures ∙ c.in-Some-getter.is)
    c.in_ok-share-in-Some-getter.ensures c.new.ensures
