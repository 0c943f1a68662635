use Rattle.jl_op.proofs.KindsListed.{each_once}
use Rattle.jl_op.proofs.laws.kinds_are_listed.Goals as goal

pub returns-clause-once : goal.returns-clause-once
returns-clause-once c = each_once
