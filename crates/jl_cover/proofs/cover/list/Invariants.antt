use Rattle.std.proofs.Common.{◌≡◌, map}
use Rattle.std.specs.Map.Iter.{deref_pair}
use Rattle.jl_cover.specs.Coverage.{missed_at}
use Rattle.jl_cover.proofs.cover.list.Given as goal

abbrev pub invariant-loop-line : goal.invariant-loop-line
invariant-loop-line l = l.missed.items ≡ map missed_at (map deref_pair l.yielded)
