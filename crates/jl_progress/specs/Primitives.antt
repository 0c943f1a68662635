-- Primitive values as numbers.
use Rattle.jl_num.specs.Number.{Number}
use Rattle.jl_value.specs.declared.value.Value.{Value}
use Rattle.jl_conv.specs.Conversions.{number_of_value}
use Rattle.jl_meaning.specs.Parts.{or_fault, Algorithm, NumberOutside}

-- a primitive value as a number (9.3)
abbrev pub number_of_primitive : Value → Algorithm Number
number_of_primitive p = or_fault NumberOutside (number_of_value p)
