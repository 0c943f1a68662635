use Rattle.std.proofs.Common.{◌^◌, take}
use Rattle.jl_token.specs.Characters.{hex_from}
use Rattle.jl_conv.specs.inner.Amounts.{Agree}
use Rattle.jl_conv.proofs.decimal.hexadecimal.Given as goal

abbrev pub invariant-loop-unit : goal.invariant-loop-unit
invariant-loop-unit l = Agree (2 ^ 53) l.number (hex_from 0 (take l.unit-index l.fn.digits))
