use Rattle.std.proofs.Common.{◌-◌, length}
use Rattle.jl_statement.proofs.Gathered.{LeavesSame}
use Rattle.jl_statement.proofs.visits.first_left.Given as goal

abbrev pub invariant-loop-visit : goal.invariant-loop-visit
invariant-loop-visit l = LeavesSame l.heap l.visits l.from l.at

abbrev pub decreases-loop-visit : goal.decreases-loop-visit
decreases-loop-visit l = length l.visits - l.at
