use Rattle.std.proofs.Common.{◌≤◌, ◌-◌, drop, length}
use Rattle.jl_lex.proofs.Loops.{Inside}
use Rattle.jl_lex.proofs.comment_ends.block.Given as goal

abbrev pub invariant-loop-unit : goal.invariant-loop-unit
invariant-loop-unit l = record {
  inside : Inside l.lines (drop l.end l.units) (drop l.at l.units);
  later : l.at ≤ l.end;
  within : l.end ≤ length l.units;
}

abbrev pub decreases-loop-unit : goal.decreases-loop-unit
decreases-loop-unit l = length l.initial.units - l.end
