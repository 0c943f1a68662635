use Rattle.std.proofs.Common.{◌-◌, length}
use Rattle.jl_statement.proofs.Declaring.{DeclaresSame}
use Rattle.jl_statement.proofs.variables.first_initialised.Given as goal

abbrev pub invariant-loop-declarator : goal.invariant-loop-declarator
invariant-loop-declarator l = DeclaresSame l.rest.list.now l.rest.from l.at

abbrev pub decreases-loop-declarator : goal.decreases-loop-declarator
decreases-loop-declarator l = length l.rest.list.now - l.at
