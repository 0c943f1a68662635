use Rattle.jl_value.proofs.Numerals.{IsRead}
use Rattle.jl_value.proofs.index.array_index.Given as goal

abbrev pub invariant-loop-unit : goal.invariant-loop-unit
invariant-loop-unit l = IsRead l.fn.units l.rest l.index l.unit-index
