use Rattle.std.proofs.Common.{◌≡◌, map, take}
use Rattle.jl_lib_text.specs.inner.Letters.{letter_in}
use Rattle.jl_lib_text.proofs.casing.letters_in.Given as goal

abbrev pub invariant-loop-unit : goal.invariant-loop-unit
invariant-loop-unit l = l.list ≡ map (letter_in l.case) (take l.unit-index l.units)
