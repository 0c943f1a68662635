use Rattle.std.proofs.Common.{◌≡◌, drop}
use Rattle.jl_print.specs.Pieces.{are_plain}
use Rattle.jl_print.proofs.layout.are_plain.Given as goal

abbrev pub invariant-loop-unit : goal.invariant-loop-unit
invariant-loop-unit l = are_plain (drop l.unit-index l.units) ≡ are_plain l.units
