use Rattle.std.proofs.Common.{◌≡◌, ◌++◌, map}
use Rattle.std.specs.List.{range_with_len}
use Rattle.jl_statement.specs.inner.Visited.{all_seen, unit_visit}
use Rattle.jl_statement.proofs.visits.add_units.Given as goal

abbrev pub invariant-loop-index : goal.invariant-loop-index
invariant-loop-index l =
    all_seen l.visits ≡ all_seen l.fn.visits ++ map (unit_visit l.holder) (range_with_len 0 l.index)
