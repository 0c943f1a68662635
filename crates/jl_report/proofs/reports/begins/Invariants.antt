use Rattle.std.proofs.Common.{◌≡◌, take}
use Rattle.jl_report.specs.Reports.{places_of}
use Rattle.jl_report.proofs.reports.begins.Given as goal

abbrev pub invariant-loop-before : goal.invariant-loop-before
invariant-loop-before l = l.places.items ≡ places_of l.lines (take l.before l.map)
