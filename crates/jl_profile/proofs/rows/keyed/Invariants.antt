use Rattle.std.proofs.Common.{◌≡◌, map}
use Rattle.std.specs.Map.Iter.{deref_pair}
use Rattle.jl_profile.specs.Births.{keyed_births}
use Rattle.jl_profile.proofs.rows.keyed.Given as goal

abbrev pub invariant-loop-object : goal.invariant-loop-object
invariant-loop-object l = l.births.items ≡ keyed_births l.lines l.map (map deref_pair l.yielded)
