use Rattle.jl_heap.proofs.StoreSteps.{kept_removed, seen_removed}
use Rattle.jl_heap.proofs.heap.Heap.remove.Goals as goal

pub invariant_of-self : goal.invariant_of-self
invariant_of-self c = kept_removed c.self.inside _ _ c.args.name.now c.self.invariant c.remove.ensures.after

pub returns : goal.returns
returns c = seen_removed c.self.inside _ _ _ c.self.invariant _ c.self.view_is c.remove.ensures.after
