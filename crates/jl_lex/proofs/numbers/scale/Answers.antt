use Rattle.std.proofs.Common.{sym, ◌∙◌, arith}
use Rattle.jl_lex.proofs.AmountLemmas.{scaled_more, scaled_stop, scaled_end}
use Rattle.jl_lex.proofs.numbers.scale.Goals as goal

pub returns-then-value-gt-LARGEST_SIZE-clause-value : goal.returns-then-value-gt-LARGEST_SIZE-clause-value
returns-then-value-gt-LARGEST_SIZE-clause-value c =
    sym (scaled_stop c.loop-left.value c.loop-left.left c.if-value-gt-LARGEST_SIZE.true) ∙ c.loop-left.invariant.value

pub loop-left-preserved : goal.loop-left-preserved
loop-left-preserved c = record {
  value = sym (scaled_more c.loop-left.value c.loop-left.left c.loop-left-test.true
      c.if-value-gt-LARGEST_SIZE.false) ∙ c.loop-left.invariant.value;
  small = omega (arith, c.if-value-gt-LARGEST_SIZE.false);
}

pub returns-clause-value : goal.returns-clause-value
returns-clause-value c = sym (scaled_end c.loop-left.value c.loop-left.left c.loop-left-test.false)
    ∙ c.loop-left.invariant.value
