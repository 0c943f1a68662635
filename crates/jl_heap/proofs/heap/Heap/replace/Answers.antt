use Rattle.std.proofs.Common.{subst, sym}
use Rattle.std.specs.Prelude.{IsSome}
use Rattle.jl_heap.proofs.InsideLemmas.{own_is}
use Rattle.jl_heap.proofs.StoreSteps.{kept_replaced, seen_replaced}
use Rattle.jl_heap.proofs.heap.Heap.replace.Goals as goal

pub set-requires : goal.set-requires
set-requires c = subst (λ o. IsSome o) (sym (own_is c.self.inside _ _ _ c.self.invariant c.self.view_is)) c.requires

pub invariant_of-self : goal.invariant_of-self
invariant_of-self c = kept_replaced c.self.inside _ _ c.args.name.now c.self.invariant c.args.property c.set.ensures

pub returns : goal.returns
returns c = seen_replaced c.self.inside _ _ _ c.self.invariant _ c.self.view_is _ c.set.ensures
