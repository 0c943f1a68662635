use Rattle.std.proofs.Common.{◌≤◌, ◌-◌, drop, length}
use Rattle.jl_lex.proofs.NumberLoops.{HexSoFar}
use Rattle.jl_lex.proofs.numbers.hex.Given as goal

abbrev pub invariant-loop-digit : goal.invariant-loop-digit
invariant-loop-digit l =
    record {
      digits : HexSoFar l.number (drop l.end l.units) (drop l.at l.units);
      small : l.number ≤ 144115188075855871;
      later : l.at ≤ l.end;
      within : l.end ≤ length l.units;
    }

abbrev pub decreases-loop-digit : goal.decreases-loop-digit
decreases-loop-digit l = length l.initial.units - l.end
