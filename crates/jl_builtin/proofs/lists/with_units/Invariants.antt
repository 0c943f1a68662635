use Rattle.std.proofs.Common.{◌≡◌, ◌++◌, take}
use Rattle.jl_builtin.proofs.lists.with_units.Given as goal

abbrev pub invariant-loop-unit : goal.invariant-loop-unit
invariant-loop-unit l = l.list ≡ l.fn.list ++ take l.unit-index l.units
