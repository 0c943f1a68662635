use Rattle.std.proofs.Common.{◌≡◌}
use Rattle.jl_meaning.specs.Relations.{target_within}
use Rattle.jl_store.proofs.store.Store.target_of.Given as goal

abbrev pub invariant-loop-target : goal.invariant-loop-target
invariant-loop-target l =
    target_within l.at.0 l.fn.self.heap l.at ≡ target_within l.fn.f.0 l.fn.self.heap l.fn.f

abbrev pub decreases-loop-target : goal.decreases-loop-target
decreases-loop-target l = l.at.0
