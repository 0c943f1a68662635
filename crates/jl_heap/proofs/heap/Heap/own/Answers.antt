use Rattle.std.proofs.Common.{◌∙◌}
use Rattle.jl_heap.proofs.InsideLemmas.{own_is}
use Rattle.jl_heap.proofs.heap.Heap.own.Goals as goal

pub returns : goal.returns
returns c = c.get.ensures.value ∙ own_is c.self.inside _ _ _ c.self.invariant c.self.view_is
