use Rattle.std.proofs.Common.{◌∙◌, ap}
use Rattle.jl_heap.specs.Objects.{own}
use Rattle.jl_heap.proofs.InsideLemmas.{own_is}
use Rattle.jl_heap.proofs.Named.{named, right_name}
use Rattle.jl_heap.proofs.heap.Heap.length.Goals as goal

pub returns-in-Some : goal.returns-in-Some
returns-in-Some c =
    c.get.ensures.value
    ∙ own_is c.self.inside _ c.args.id.0 _ c.self.invariant c.self.view_is
    ∙ ap (own c.args.self.now c.args.id.0) (right_name c.self.inside _ c.self.invariant c.in-Some.is)

pub returns-in-None : goal.returns-in-None
returns-in-None c = absurd (named c.self.inside _ _ c.self.invariant c.self.view_is c.requires c.in-None.is)
