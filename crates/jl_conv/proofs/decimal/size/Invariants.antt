use Rattle.std.proofs.Common.{◌^◌, take}
use Rattle.jl_token.specs.Characters.{decimal_from}
use Rattle.jl_conv.specs.inner.Amounts.{Agree}
use Rattle.jl_conv.proofs.decimal.size.Given as goal

abbrev pub invariant-loop-unit : goal.invariant-loop-unit
invariant-loop-unit l = Agree (2 ^ 63) l.number (decimal_from 0 (take l.unit-index l.fn.digits))
