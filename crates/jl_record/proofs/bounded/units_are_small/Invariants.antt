use Rattle.std.proofs.Common.{◌<◌, ◌^◌, All, take}
use Rattle.jl_record.proofs.bounded.units_are_small.Given as goal

abbrev pub invariant-loop-unit : goal.invariant-loop-unit
invariant-loop-unit l = All (λ u. u < 2 ^ 16) (take l.unit-index l.units)
