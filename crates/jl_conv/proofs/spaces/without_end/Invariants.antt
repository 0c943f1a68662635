use Rattle.std.proofs.Common.{◌≡◌, ◌+◌, ◌≤◌, length, take}
use Rattle.std.specs.List.{suffix_len}
use Rattle.jl_conv.specs.Numerals.{is_space}
use Rattle.jl_conv.proofs.spaces.without_end.Given as goal

abbrev pub invariant-loop-end : goal.invariant-loop-end
invariant-loop-end l = record {
  within : l.end ≤ length l.units;
  spaces : l.end + suffix_len is_space l.units ≡ length l.units + suffix_len is_space (take l.end l.units);
}

abbrev pub decreases-loop-end : goal.decreases-loop-end
decreases-loop-end l = l.end
