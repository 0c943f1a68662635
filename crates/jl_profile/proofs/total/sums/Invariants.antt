use Rattle.std.proofs.Common.{◌≡◌, take}
use Rattle.jl_profile.specs.Births.{all_made, all_unused}
use Rattle.jl_profile.proofs.total.sums.Given as goal

abbrev pub invariant-loop-row : goal.invariant-loop-row
invariant-loop-row l = record {
  made : l.total.made ≡ all_made (take l.row-index l.births);
  unused : l.total.unused ≡ all_unused (take l.row-index l.births);
}
