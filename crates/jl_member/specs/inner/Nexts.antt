-- The numbers of `++` and `--`.
use Rattle.std.specs.Prelude.{None, Option, Some}
use Rattle.jl_num.specs.Number.{Number}
use Rattle.jl_value.specs.declared.value.Value.{Value}
use Rattle.jl_conv.specs.Conversions.{number_of_value}
use Rattle.jl_op.specs.declared.sign.UnKind.{UnKind}
use Rattle.jl_meaning.specs.Operators.{next_after}

-- a number with the one after it
abbrev pub pair_of : Number → Option Number → Option (Number × Number)
pair_of n None = None
pair_of n (Some m) = Some (n, m)

abbrev pub pair_from : UnKind → Option Number → Option (Number × Number)
pair_from o None = None
pair_from o (Some n) = pair_of n (next_after o n)

-- a primitive value as a number, and the number after or before that one
abbrev pub next_of : UnKind → Value → Option (Number × Number)
next_of o v = pair_from o (number_of_value v)
