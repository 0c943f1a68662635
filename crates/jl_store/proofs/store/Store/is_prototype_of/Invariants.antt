use Rattle.std.proofs.Common.{◌≡◌}
use Rattle.jl_meaning.specs.Relations.{is_prototype_of}
use Rattle.jl_store.proofs.store.Store.is_prototype_of.Given as goal

abbrev pub invariant-loop-next : goal.invariant-loop-next
invariant-loop-next l =
    is_prototype_of l.fn.self.heap l.proto.0 l.at.0 ≡ is_prototype_of l.fn.self.heap l.proto.0 l.fn.id.0

abbrev pub decreases-loop-next : goal.decreases-loop-next
decreases-loop-next l = l.at.0
