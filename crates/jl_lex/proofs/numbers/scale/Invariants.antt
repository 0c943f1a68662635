use Rattle.std.proofs.Common.{◌≡◌, ◌≤◌}
use Rattle.jl_lex.specs.inner.Amounts.{scale}
use Rattle.jl_lex.proofs.numbers.scale.Given as goal

abbrev pub invariant-loop-left : goal.invariant-loop-left
invariant-loop-left l = record {
  value : scale l.value l.left ≡ scale l.number l.times;
  small : l.value ≤ 90071992547409910;
}

abbrev pub decreases-loop-left : goal.decreases-loop-left
decreases-loop-left l = l.left
