use Rattle.std.proofs.Common.{◌≡◌, ◌+◌, ◌-◌, ◌≤◌, length, drop}
use Rattle.std.specs.List.{prefix_len}
use Rattle.jl_conv.specs.Numerals.{is_space}
use Rattle.jl_conv.proofs.spaces.without_front.Given as goal

abbrev pub invariant-loop-from : goal.invariant-loop-from
invariant-loop-from l = record {
  within : l.from ≤ length l.units;
  spaces : l.from + prefix_len is_space (drop l.from l.units) ≡ prefix_len is_space l.units;
}

abbrev pub decreases-loop-from : goal.decreases-loop-from
decreases-loop-from l = length l.units - l.from
