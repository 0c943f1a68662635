use Rattle.std.proofs.Common.{◌≡◌, ◌++◌, drop, map}
use Rattle.jl_statement.specs.inner.Visited.{all_seen, property_visit}
use Rattle.jl_statement.proofs.visits.add_properties.Given as goal

abbrev pub invariant-loop-named : goal.invariant-loop-named
invariant-loop-named l =
    all_seen l.visits ++ map (property_visit l.holder) (drop l.named-index l.names)
    ≡ all_seen l.fn.visits ++ map (property_visit l.holder) l.names
