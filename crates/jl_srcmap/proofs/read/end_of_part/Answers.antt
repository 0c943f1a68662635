use Rattle.std.proofs.Common.{arith}
use Rattle.jl_srcmap.proofs.Parts.{part_here, part_to_end, passes, runs_out, stops}
use Rattle.jl_srcmap.proofs.read.end_of_part.Goals as goal

pub loop-end-preserved : goal.loop-end-preserved
loop-end-preserved c =
    let text = c.args.text.now in
    let end = c.loop-end.end in
    let passed = c.loop-end.invariant.passed in
    let next = passes c.args.separator text end 0 (omega arith) c.if-text-end.false in
    record {
      from = omega arith;
      within = omega arith;
      passed = omega arith;
    }

pub returns-then-text-end-clause-part : goal.returns-then-text-end-clause-part
returns-then-text-end-clause-part c = λ at.
    let text = c.args.text.now in
    let end = c.loop-end.end in
    let passed = c.loop-end.invariant.passed in
    let none = stops c.args.separator text end 0 (omega arith) c.if-text-end.true in
    part_here c.args.separator at text c.args.from end (omega arith) (omega arith) (omega arith)

pub returns-clause-part : goal.returns-clause-part
returns-clause-part c = λ at.
    let text = c.args.text.now in
    let end = c.loop-end.end in
    let passed = c.loop-end.invariant.passed in
    let none = runs_out c.args.separator text end (omega arith) in
    part_to_end c.args.separator at text c.args.from end (omega arith) (omega arith) (omega arith)
