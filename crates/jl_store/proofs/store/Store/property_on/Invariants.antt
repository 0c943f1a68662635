use Rattle.std.proofs.Common.{◌≡◌}
use Rattle.jl_meaning.specs.Properties.{property_on}
use Rattle.jl_store.proofs.store.Store.property_on.Given as goal

abbrev pub invariant-loop-found : goal.invariant-loop-found
invariant-loop-found l = property_on l.fn.self l.at l.fn.name ≡ property_on l.fn.self l.fn.id l.fn.name

abbrev pub decreases-loop-found : goal.decreases-loop-found
decreases-loop-found l = l.at.0
