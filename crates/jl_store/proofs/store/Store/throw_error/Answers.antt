use Rattle.std.proofs.Common.{refl}
use Rattle.jl_store.proofs.Fresh.{is_free, names_new}
use Rattle.jl_store.proofs.store.Store.throw_error.Goals as goal

pub add_property-requires : goal.add_property-requires
add_property-requires c =
    is_free c.in_ok-name.name refl
    (names_new _ _ _ _ _ _ c.in_ok-error.ensures.next c.in_ok-error.ensures.made refl) refl
