-- Arithmetic on the numbers of a script (11.4.7, 11.5, 11.6.3). An operation gives a number, or none where its result
-- is outside: an infinity, a fraction, or a whole number of more than 2^53 - 1 in size. With NaN every operation gives
-- NaN.
use Rattle.std.specs.Prelude.{ℤ, pos, ◌+ℤ◌, ◌-ℤ◌, ◌*ℤ◌, neg_ℤ, int_div, int_rem, Option, Some, None, if◌then◌else◌}
use Rattle.std.specs.Ordering.{int_eq}
use Rattle.jl_num.specs.Number.{Number, is_number}

-- z as a number of a script, or none where it is outside
abbrev pub number_of : ℤ → Option Number
number_of z = if is_number z then Some (Some z) else None

-- a + b (11.6.3)
abbrev pub sum_of : Number → Number → Option Number
sum_of None _ = Some None
sum_of (Some _) None = Some None
sum_of (Some a) (Some b) = number_of (a +ℤ b)

-- a - b (11.6.3)
abbrev pub difference_of : Number → Number → Option Number
difference_of None _ = Some None
difference_of (Some _) None = Some None
difference_of (Some a) (Some b) = number_of (a -ℤ b)

-- a * b (11.5.1)
abbrev pub product_of : Number → Number → Option Number
product_of None _ = Some None
product_of (Some _) None = Some None
product_of (Some a) (Some b) = number_of (a *ℤ b)

-- a / b (11.5.2): NaN where both are 0, outside where b alone is, and else the q whose product with b is a, outside
-- where no whole number is that q
abbrev pub quotient_of : Number → Number → Option Number
quotient_of None _ = Some None
quotient_of (Some _) None = Some None
quotient_of (Some a) (Some b) =
    if int_eq b (pos 0)
    then (if int_eq a (pos 0) then Some None else None)
    else (let q = int_div a b in if int_eq (q *ℤ b) a then number_of q else None)

-- a % b (11.5.3): NaN where b is 0, and else what is left of a division that rounds toward zero. It has the sign of a.
abbrev pub remainder_of : Number → Number → Number
remainder_of None _ = None
remainder_of (Some _) None = None
remainder_of (Some a) (Some b) = if int_eq b (pos 0) then None else Some (int_rem a b)

-- -a (11.4.7)
abbrev pub negative_of : Number → Number
negative_of None = None
negative_of (Some a) = Some (neg_ℤ a)
