use Rattle.std.proofs.Common.{◌≡◌, ◌≤◌, ◌+◌, ◌-◌, drop, length}
use Rattle.jl_srcmap.proofs.Parts.{end_in}
use Rattle.jl_srcmap.proofs.read.end_of_part.Given as goal

abbrev pub invariant-loop-end : goal.invariant-loop-end
invariant-loop-end l = record {
  from : l.from ≤ l.end;
  within : l.end ≤ length l.text;
  passed : end_in l.separator (drop l.from l.text) ≡ l.end - l.from + end_in l.separator (drop l.end l.text);
}

abbrev pub decreases-loop-end : goal.decreases-loop-end
decreases-loop-end l = length l.text - l.end
