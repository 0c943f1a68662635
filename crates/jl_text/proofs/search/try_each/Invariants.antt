use Rattle.std.proofs.Common.{◌+◌, ◌-◌}
use Rattle.jl_text.specs.inner.Seeking.{HasNone}
use Rattle.jl_text.proofs.search.try_each.Given as goal

abbrev pub invariant-loop-at : goal.invariant-loop-at
invariant-loop-at g l =
    HasNone (g.U.Units.unit l.units) (g.U.Units.unit l.part) (g.U.Units.size l.part) l.from l.at

abbrev pub decreases-loop-at : goal.decreases-loop-at
decreases-loop-at g l = g.U.Units.size l.units + 1 - l.at
