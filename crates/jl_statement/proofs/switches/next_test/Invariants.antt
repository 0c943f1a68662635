use Rattle.std.proofs.Common.{◌-◌, length}
use Rattle.jl_statement.proofs.Selecting.{SelectsSame}
use Rattle.jl_statement.proofs.switches.next_test.Given as goal

abbrev pub invariant-loop-case : goal.invariant-loop-case
invariant-loop-case l = SelectsSame l.cases l.from l.at

abbrev pub decreases-loop-case : goal.decreases-loop-case
decreases-loop-case l = length l.cases - l.at
