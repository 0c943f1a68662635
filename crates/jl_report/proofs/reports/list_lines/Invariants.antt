use Rattle.std.proofs.Common.{◌≡◌, not, map}
use Rattle.std.specs.Prelude.{filter}
use Rattle.std.specs.Map.Iter.{deref_pair}
use Rattle.jl_report.specs.Off.{is_off}
use Rattle.jl_report.specs.Reports.{key}
use Rattle.jl_report.proofs.reports.list_lines.Given as goal

abbrev pub invariant-loop-line : goal.invariant-loop-line
invariant-loop-line l = map (λ x. (key x, x.count)) l.lines.items
    ≡ filter (λ e. not (is_off l.off e.0.0 e.0.2)) (map deref_pair l.yielded)
