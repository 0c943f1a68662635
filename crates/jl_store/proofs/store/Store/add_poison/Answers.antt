use Rattle.std.proofs.Common.{refl}
use Rattle.jl_scope.specs.Names.{arguments_name}
use Rattle.jl_store.proofs.Fresh.{still_free}
use Rattle.jl_store.proofs.Steps.{comes_added, comes_by_adding}
use Rattle.jl_store.proofs.store.Store.add_poison.Goals as goal

pub add_property-requires-2 : goal.add_property-requires-2
unfolding arguments_name
add_property-requires-2 c =
    still_free _ _ _ _ c.in_ok-caller.ensures c.in_ok-arguments.ensures c.in_ok-add_property.ensures.made refl
    c.requires.arguments

pub returns-clause-made : goal.returns-clause-made
unfolding arguments_name
returns-clause-made c =
    comes_added c.args.f c.in_ok-caller.ensures c.thrower_property.ensures c.in_ok-add_property.ensures.made
    (comes_by_adding c.args.f c.in_ok-arguments.ensures c.thrower_property-2.ensures
    c.in_ok-add_property-2.ensures.made)
