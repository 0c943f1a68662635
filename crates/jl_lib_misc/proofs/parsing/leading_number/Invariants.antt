use Rattle.std.proofs.Common.{◌≡◌, ◌≤◌, drop}
use Rattle.jl_lib_misc.specs.inner.Radix.{leading_number}
use Rattle.jl_lib_misc.proofs.parsing.leading_number.Given as goal

abbrev pub invariant-loop-unit : goal.invariant-loop-unit
invariant-loop-unit l = record {
  small : l.number ≤ 9007199254740991;
  rest : leading_number l.radix l.number (drop l.unit-index l.units) ≡ leading_number l.radix 0 l.units;
}
