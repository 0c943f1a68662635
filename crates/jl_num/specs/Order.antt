-- The order of two numbers of a script.
use Rattle.std.specs.Prelude.{Option, Some, None}
use Rattle.std.specs.declared.cmp.Ordering.{Ordering}
use Rattle.std.specs.Ordering.{int_cmp}
use Rattle.jl_num.specs.Number.{Number}

-- how a stands to b, or none where one of them is NaN (11.8.5)
abbrev pub order_of : Number → Number → Option Ordering
order_of None _ = None
order_of (Some _) None = None
order_of (Some a) (Some b) = Some (int_cmp a b)
