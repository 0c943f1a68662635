use Rattle.std.proofs.Common.{◌≡◌, take}
use Rattle.jl_app.specs.Reporting.{lines_text}
use Rattle.jl_app.proofs.report.text.Given as goal

abbrev pub invariant-loop-line : goal.invariant-loop-line
invariant-loop-line l = l.text.items ≡ lines_text (take l.line-index l.lines)
