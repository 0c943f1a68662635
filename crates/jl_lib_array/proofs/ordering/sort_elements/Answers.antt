use Rattle.jl_lib_array.proofs.Orders.{before, ranks, sorts_alike}
use Rattle.std.proofs.Common.{rules}
use Rattle.std.proofs.lemmas.List.Sorted.{answers_always}
use Rattle.jl_lib_array.proofs.ordering.sort_elements.Goals as goal

pub returns : goal.returns
returns c =
    sorts_alike _ _
    (c.in_ok-sort_by.ensures.sorted before ranks (answers_always _ _ _ (λ f a r g called. search rules)))
    (c.sort_by.ensures.stable before ranks (answers_always _ _ _ (λ f a r g called. search rules)))
