use Rattle.std.proofs.Common.{◌≡◌, ◌∷◌, ◌++◌, drop}
use Rattle.jl_text.specs.Quoted.{quoted_after}
use Rattle.jl_text.proofs.quoting.quote.Given as goal

abbrev pub invariant-loop-at : goal.invariant-loop-at
invariant-loop-at l = l.made.items ++ quoted_after l.before (drop l.at l.units) ≡ 0x22 ∷ quoted_after 0 l.units
