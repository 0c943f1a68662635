use Rattle.std.proofs.Common.{◌≡◌}
use Rattle.jl_meaning.specs.References.{reference_within}
use Rattle.jl_store.proofs.store.Store.identifier_reference.Given as goal

abbrev pub invariant-loop-env : goal.invariant-loop-env
invariant-loop-env l =
    reference_within l.at l.fn.self l.at l.fn.name ≡ reference_within l.fn.env l.fn.self l.fn.env l.fn.name

abbrev pub decreases-loop-env : goal.decreases-loop-env
decreases-loop-env l = l.at
