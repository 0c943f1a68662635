use Rattle.std.proofs.Common.{◌≡◌, ◌∷◌, ◌++◌, drop}
use Rattle.jl_text.specs.Places.{starts_after}
use Rattle.jl_text.proofs.lines.Lines.new.Given as goal

abbrev pub invariant-loop-at : goal.invariant-loop-at
invariant-loop-at l = l.starts.items ++ starts_after l.at (drop l.at l.units) ≡ 0 ∷ starts_after 0 l.units
