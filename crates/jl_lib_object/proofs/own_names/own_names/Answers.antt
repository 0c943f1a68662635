use Rattle.std.proofs.Common.{◌∙◌, ap}
use Rattle.jl_heap.specs.Objects.{names_of}
use Rattle.jl_lib_object.proofs.Listings.{own_names_are}
use Rattle.jl_lib_object.proofs.own_names.own_names.Goals as goal

pub returns : goal.returns
returns c =
    own_names_are c.args.store.now c.args.id.0 _ _ _ _ c.in_ok-units.ensures c.unit_count.ensures
    (c.items.ensures ∙ c.in_ok-stored.ensures.names ∙ ap (λ h. names_of h c.args.id.0) c.heap.ensures)
    c.in_ok-all.ensures
