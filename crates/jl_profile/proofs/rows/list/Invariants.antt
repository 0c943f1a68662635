use Rattle.std.proofs.Common.{◌≡◌, map}
use Rattle.std.specs.Map.Iter.{deref_pair}
use Rattle.jl_profile.specs.inner.Rows.{listed}
use Rattle.jl_profile.proofs.rows.list.Given as goal

abbrev pub invariant-loop-line : goal.invariant-loop-line
invariant-loop-line l = l.births.items ≡ map listed (map deref_pair l.yielded)
