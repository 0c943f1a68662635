-- Arguments of Array.
use Rattle.std.specs.Prelude.{[], ◌∷◌, List, None, Option, Some}
use Rattle.jl_num.specs.Number.{Number}
use Rattle.jl_value.specs.declared.value.Value.{Value}
use Rattle.jl_value.specs.declared.value.Value.TheVariants as value

-- the number that a value is, if it is one
abbrev pub number_in : Value → Option Number
number_in (value.Num n) = Some n
number_in _ = None

-- the number that is the only argument, if it is one
abbrev pub only_number : List Value → Option Number
only_number (v ∷ []) = number_in v
only_number _ = None
