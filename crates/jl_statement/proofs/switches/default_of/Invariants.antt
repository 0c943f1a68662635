use Rattle.std.proofs.Common.{◌≡◌, ◌-◌, length}
use Rattle.jl_statement.proofs.Selecting.{default_at}
use Rattle.jl_statement.proofs.switches.default_of.Given as goal

abbrev pub invariant-loop-case : goal.invariant-loop-case
invariant-loop-case l = default_at 0 l.cases ≡ default_at l.at l.cases

abbrev pub decreases-loop-case : goal.decreases-loop-case
decreases-loop-case l = length l.cases - l.at
