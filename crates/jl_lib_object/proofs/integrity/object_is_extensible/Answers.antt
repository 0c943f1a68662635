use Rattle.std.proofs.Common.{ap}
use Rattle.jl_value.specs.declared.value.Value.TheVariants as value
use Rattle.jl_heap.specs.Objects.{object_at}
use Rattle.jl_lib_object.proofs.Ends.{gives_seen, goes_on, throws_on}
use Rattle.jl_lib_object.proofs.integrity.object_is_extensible.Goals as goal

pub returns-in-Throws-clause-refines : goal.returns-in-Throws-clause-refines
returns-in-Throws-clause-refines c = throws_on _ _ _ _ _ c.in_ok-thrown.ensures _ c.in-Throws.is

pub returns-in-Gives-clause-refines : goal.returns-in-Gives-clause-refines
returns-in-Gives-clause-refines c =
    goes_on _ _ _ _ _ c.in_ok-thrown.ensures _ _ _ c.in-Gives.is
    (gives_seen _ (λ store. value.Bool (object_at store.heap c.in-Gives.object.0).extensible) _
    (ap (λ b. value.Bool b) c.is_extensible-extensible.ensures))
