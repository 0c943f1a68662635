use Rattle.std.proofs.Common.{◌≡◌}
use Rattle.jl_meaning.specs.References.{reference_within}
use Rattle.jl_store.proofs.store.Store.value_of_name.Given as goal

abbrev pub invariant-loop-bound : goal.invariant-loop-bound
invariant-loop-bound l =
    reference_within l.at l.fn.self l.at l.fn.name ≡ reference_within l.fn.env l.fn.self l.fn.env l.fn.name

abbrev pub decreases-loop-bound : goal.decreases-loop-bound
decreases-loop-bound l = l.at
