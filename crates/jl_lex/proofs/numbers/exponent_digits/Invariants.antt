use Rattle.std.proofs.Common.{◌≤◌, ◌-◌, drop, length}
use Rattle.jl_lex.proofs.AmountLemmas.{CappedSoFar}
use Rattle.jl_lex.proofs.numbers.exponent_digits.Given as goal

abbrev pub invariant-loop-unit : goal.invariant-loop-unit
invariant-loop-unit l = record {
  digits : CappedSoFar l.number (drop l.end l.units) (drop l.at l.units);
  small : l.number ≤ 10995116277769;
  later : l.at ≤ l.end;
  within : l.end ≤ length l.units;
}

abbrev pub decreases-loop-unit : goal.decreases-loop-unit
decreases-loop-unit l = length l.initial.units - l.end
