use Rattle.std.proofs.Common.{refl}
use Rattle.jl_store.proofs.Fresh.{is_free, names_new}
use Rattle.jl_lib_misc.proofs.errors.new_error.Goals as goal

pub add_property-requires : goal.add_property-requires
add_property-requires c =
    is_free c.in_ok-name.name refl
    (names_new _ _ _ _ _ _ c.in_ok-id.ensures.next c.in_ok-id.ensures.made refl) refl
