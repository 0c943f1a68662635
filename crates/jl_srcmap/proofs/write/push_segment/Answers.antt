use Rattle.std.proofs.Common.{arith}
use Rattle.jl_srcmap.proofs.Small.{alone_small, placed_small}
use Rattle.jl_srcmap.proofs.write.push_segment.Goals as goal

pub returns-in-None-clause-small : goal.returns-in-None-clause-small
returns-in-None-clause-small c = alone_small c.args.segment.now c.in-None.is (omega arith) (omega arith)

pub returns-in-Some-clause-small : goal.returns-in-Some-clause-small
returns-in-Some-clause-small c =
    placed_small c.push_origin.result c.args.segment.now c.in-Some.origin c.in-Some.is (omega arith) (omega arith)
    c.push_origin.ensures.small
