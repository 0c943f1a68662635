use Rattle.std.proofs.Common.{refl}
use Rattle.jl_store.proofs.Fresh.{is_free, names_new}
use Rattle.jl_store.proofs.store.Store.new_string_object.Goals as goal

pub add_property-requires : goal.add_property-requires
add_property-requires c =
    is_free _ refl (names_new _ _ _ _ _ _ c.in_ok-id.ensures.next c.in_ok-id.ensures.made refl) refl
