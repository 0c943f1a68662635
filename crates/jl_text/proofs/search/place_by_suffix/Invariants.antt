use Rattle.std.proofs.Common.{◌≤◌, ◌+◌, ◌-◌, ◌*◌}
use Rattle.jl_text.specs.inner.Seeking.{Agrees, HasNone, IsPeriod}
use Rattle.jl_text.proofs.search.place_by_suffix.Given as goal

abbrev pub invariant-loop-at : goal.invariant-loop-at
invariant-loop-at g l = (l.end ≤ g.U.Units.size l.part)
    × IsPeriod (g.U.Units.unit l.part) l.start l.end l.period
    × Agrees (g.U.Units.unit l.units) (g.U.Units.unit l.part) l.at l.start l.end
    × HasNone (g.U.Units.unit l.units) (g.U.Units.unit l.part) (g.U.Units.size l.part) l.from l.at

-- no more turns than three for each unit and one for each of the part
abbrev pub decreases-loop-at : goal.decreases-loop-at
decreases-loop-at g l = 3 * (g.U.Units.size l.units + 1 - l.at) + (g.U.Units.size l.part - l.end)
