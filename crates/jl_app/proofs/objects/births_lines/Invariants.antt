use Rattle.std.proofs.Common.{◌≡◌, take}
use Rattle.jl_app.specs.Profiling.{births_lines}
use Rattle.jl_app.proofs.objects.births_lines.Given as goal

abbrev pub invariant-loop-row : goal.invariant-loop-row
invariant-loop-row l = l.text.items ≡ births_lines (take l.row-index l.rows)
