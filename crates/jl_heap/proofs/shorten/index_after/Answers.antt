use Rattle.std.proofs.Common.{◌∙◌, arith, sym}
use Rattle.jl_heap.proofs.Plainly.{index_below}
use Rattle.jl_heap.proofs.shorten.index_after.Goals as goal

pub overflow_add-result : goal.overflow_add-result
overflow_add-result c = omega
    (arith, index_below c.units.result.now _ (sym c.array_index.ensures ∙ c.in-Some-array_index.is))
