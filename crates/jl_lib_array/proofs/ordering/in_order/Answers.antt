use Rattle.jl_lib_array.proofs.Orders.{sorts_in_place}
use Rattle.jl_lib_array.proofs.ordering.in_order.Goals as goal

pub returns : goal.returns
returns c =
    sorts_in_place c.args.elements c.items_mut.result.now _ c.items_mut.ensures.value c.in_ok-sort_elements.ensures
