use Rattle.std.proofs.Common.{arith}
use Rattle.jl_lib_array.proofs.NewArrays.{element_done, element_failed, element_thrown, elements_done}
use Rattle.jl_lib_array.proofs.arrays.add_all.Goals as goal

pub loop-index-preserved : goal.loop-index-preserved
loop-index-preserved c =
    element_done c.args.array c.loop-index.index c.args.values.now _ c.loop-index.invariant c.loop-index-test.true _
    c.index-values-index.is c.in_ok-v.ensures _ c.in_ok-answer.ensures c.in-Gives.is

pub returns-in-Throws : goal.returns-in-Throws
returns-in-Throws c =
    element_thrown c.args.array c.loop-index.index c.args.values.now _ c.loop-index.invariant c.loop-index-test.true _
    c.index-values-index.is c.in_ok-v.ensures _ c.in_ok-answer.ensures _ c.in-Throws.is

pub returns-in-Fails : goal.returns-in-Fails
returns-in-Fails c =
    element_failed c.args.array c.loop-index.index c.args.values.now _ c.loop-index.invariant c.loop-index-test.true _
    c.index-values-index.is c.in_ok-v.ensures _ c.in_ok-answer.ensures _ c.in-Fails.is

pub returns : goal.returns
returns c =
    elements_done c.args.array c.loop-index.index c.args.values.now (omega arith) c.loop-index.invariant
