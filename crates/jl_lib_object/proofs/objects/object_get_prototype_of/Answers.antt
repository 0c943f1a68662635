use Rattle.jl_heap.specs.Objects.{object_at}
use Rattle.jl_meaning.specs.builtins.Object.{prototype_value}
use Rattle.jl_lib_object.proofs.Ends.{gives_seen, goes_on, throws_on}
use Rattle.jl_lib_object.proofs.objects.object_get_prototype_of.Goals as goal

pub returns-in-Throws-clause-refines : goal.returns-in-Throws-clause-refines
returns-in-Throws-clause-refines c = throws_on _ _ _ _ _ c.in_ok-thrown.ensures _ c.in-Throws.is

pub returns-in-Gives-clause-refines : goal.returns-in-Gives-clause-refines
returns-in-Gives-clause-refines c =
    goes_on _ _ _ _ _ c.in_ok-thrown.ensures _ _ _ c.in-Gives.is
    (gives_seen _ (λ store. prototype_value (object_at store.heap c.in-Gives.id.0).proto) _ c.prototype_value.ensures)
