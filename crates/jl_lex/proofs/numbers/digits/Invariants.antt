use Rattle.std.proofs.Common.{◌≤◌, ◌-◌, drop, length}
use Rattle.jl_lex.proofs.AmountLemmas.{DigitsSoFar}
use Rattle.jl_lex.proofs.numbers.digits.Given as goal

abbrev pub invariant-loop-unit : goal.invariant-loop-unit
invariant-loop-unit l = record {
  digits : DigitsSoFar l.read.coefficient l.read.zeros (drop l.end l.units)
      (l.initial.read.coefficient, l.initial.read.zeros) (drop l.at l.units);
  small : l.read.coefficient ≤ 90071992547409919;
  few : l.read.zeros ≤ l.end;
  later : l.at ≤ l.end;
  within : l.end ≤ length l.units;
}

abbrev pub decreases-loop-unit : goal.decreases-loop-unit
decreases-loop-unit l = length l.initial.units - l.end
