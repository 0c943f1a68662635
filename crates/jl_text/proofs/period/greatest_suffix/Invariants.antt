use Rattle.std.proofs.Common.{◌≤◌, ◌+◌, ◌-◌}
use Rattle.jl_text.specs.inner.Seeking.{IsGreatest, IsPeriod}
use Rattle.jl_text.proofs.period.greatest_suffix.Given as goal

abbrev pub invariant-loop-end : goal.invariant-loop-end
invariant-loop-end g l = (l.end ≤ g.U.Units.size l.part) × IsPeriod (g.U.Units.unit l.part) l.start l.end l.period
    × IsGreatest (g.U.Units.unit l.part) l.start l.end

-- no more than twice as many turns as there are units
abbrev pub decreases-loop-end : goal.decreases-loop-end
decreases-loop-end g l = (g.U.Units.size l.part - l.start) + (g.U.Units.size l.part - l.end)
