use Rattle.std.proofs.Common.{◌∙◌}
use Rattle.jl_heap.proofs.InsideLemmas.{serial_is}
use Rattle.jl_heap.proofs.heap.Heap.serial_of.Goals as goal

pub returns : goal.returns
returns c = c.serial_of.ensures.value ∙ serial_is c.self.inside _ _ _ c.self.invariant c.self.view_is
