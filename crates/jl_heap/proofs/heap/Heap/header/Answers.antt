use Rattle.jl_heap.proofs.InsideLemmas.{header_is}
use Rattle.jl_heap.proofs.heap.Heap.header.Goals as goal

pub returns : goal.returns
returns c = header_is c.self.inside _ _ _ c.self.view_is c.header_at.ensures
