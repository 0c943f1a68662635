use Rattle.std.proofs.Common.{sym, ◌∙◌, arith}
use Rattle.jl_report.proofs.Switching.{space_there, no_space_there}
use Rattle.jl_report.proofs.off_comments.without_last_spaces.Goals as goal

pub returns-then-text-end-ne-SPACE : goal.returns-then-text-end-ne-SPACE
returns-then-text-end-ne-SPACE c =
    sym (no_space_there c.args.text.now c.loop-end.end c.loop-end-test.true c.loop-end.invariant.within
    c.if-text-end-ne-SPACE.true)
    ∙ c.loop-end.invariant.same

pub loop-end-preserved : goal.loop-end-preserved
loop-end-preserved c = record {
  within = omega (arith, c.loop-end.invariant.within);
  same = sym (space_there c.args.text.now c.loop-end.end c.loop-end-test.true c.loop-end.invariant.within
      c.if-text-end-ne-SPACE.false)
      ∙ c.loop-end.invariant.same;
}
