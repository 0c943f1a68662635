-- Powers (15.8.2.13) of the numbers of a script.
use Rattle.std.specs.Prelude.{ℕ, zero, suc, ℤ, pos, negsuc, Option, Some, None, if◌then◌else◌}
use Rattle.std.specs.Ordering.{int_eq}
use Rattle.std.specs.Int.{int_pow}
use Rattle.jl_num.specs.Number.{Number}
use Rattle.jl_num.specs.Arithmetic.{number_of}

-- a to the power -e, for an e above 0: where a is 1 or -1 it is a to the power e, and else a fraction or infinite
abbrev pub inverse_power_of : ℤ → ℕ → Option Number
inverse_power_of a e =
    if int_eq a (pos 1) then number_of (int_pow a e)
    else (if int_eq a (negsuc 0) then number_of (int_pow a e) else None)

-- a to the power b, or none where it is outside. Any number to the power 0 is 1, also NaN.
abbrev pub power_of : Number → Number → Option Number
power_of a None = Some None
power_of a (Some (pos zero)) = Some (Some (pos 1))
power_of None (Some (pos (suc e))) = Some None
power_of None (Some (negsuc e)) = Some None
power_of (Some a) (Some (pos (suc e))) = number_of (int_pow a (suc e))
power_of (Some a) (Some (negsuc e)) = inverse_power_of a (suc e)
