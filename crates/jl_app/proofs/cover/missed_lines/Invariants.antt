use Rattle.std.proofs.Common.{◌≡◌, take}
use Rattle.jl_app.specs.Covering.{missed_lines}
use Rattle.jl_app.proofs.cover.missed_lines.Given as goal

abbrev pub invariant-loop-gap : goal.invariant-loop-gap
invariant-loop-gap l = l.text.items ≡ missed_lines (take l.gap-index l.gaps)
