use Rattle.std.proofs.Common.{arith}
use Rattle.jl_srcmap.proofs.Small.{named_small, origin_small}
use Rattle.jl_srcmap.proofs.write.push_origin.Goals as goal

pub returns-in-None-clause-small : goal.returns-in-None-clause-small
returns-in-None-clause-small c =
    origin_small c.args.origin c.in-None.is (omega arith) (omega arith) (omega arith)

pub returns-in-Some-clause-small : goal.returns-in-Some-clause-small
returns-in-Some-clause-small c =
    named_small _ c.args.origin c.in-Some.name c.in-Some.is (omega arith) (omega arith) (omega arith) (omega arith)
