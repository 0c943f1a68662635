use Rattle.std.proofs.Common.{refl}
use Rattle.jl_store.proofs.Fresh.{still_free}
use Rattle.jl_store.proofs.store.Store.add_callee.Goals as goal

pub add_property-requires-3 : goal.add_property-requires-3
add_property-requires-3 c =
    still_free _ _ _ _ c.in_ok-caller.ensures c.in_ok-name.ensures c.in_ok-add_property-2.ensures.made refl
    c.requires.callee
