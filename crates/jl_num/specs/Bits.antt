-- The integers of 32 and of 16 bits that a number stands for (9.5 to 9.7), and the operations on their bits (11.4.8,
-- 11.7, 11.10).
use Rattle.std.specs.Prelude.{ℕ, ◌*◌, ◌/◌, ◌%◌, ◌^◌, ℤ, pos, ◌-ℤ◌, unsigned_abs, Some, None, nat_lt, if◌then◌else◌}
use Rattle.std.specs.Prelude.{bit_and, bit_or, bit_xor}
use Rattle.std.specs.Int.{w32, int_rem_euclid, int_div_euclid, bit_not}
use Rattle.jl_num.specs.Number.{Number}

-- z modulo m (5.2), from 0 to m - 1
abbrev pub modulo : ℤ → ℕ → ℕ
modulo z m = unsigned_abs (int_rem_euclid z (pos m))

-- ToUint32 (9.6): the number modulo 2^32, and 0 for NaN
abbrev pub uint32_of : Number → ℕ
uint32_of None = 0
uint32_of (Some z) = modulo z (2 ^ 32)

-- ToUint16 (9.7): the number modulo 2^16, and 0 for NaN
abbrev pub uint16_of : Number → ℕ
uint16_of None = 0
uint16_of (Some z) = modulo z (2 ^ 16)

-- the signed integer of these 32 bits: from 2^31 on, what is 2^32 less
abbrev pub signed_of : ℕ → ℤ
signed_of n = if nat_lt n (2 ^ 31) then pos n else pos n -ℤ pos (2 ^ 32)

-- ToInt32 (9.5)
abbrev pub int32_of : Number → ℤ
int32_of a = signed_of (uint32_of a)

-- how far a shift by b goes (11.7.1): the five lowest bits of ToUint32
abbrev pub distance_of : Number → ℕ
distance_of b = uint32_of b % 32

-- a << b (11.7.1): bits that leave the 32 are lost
abbrev pub left_shift_of : Number → Number → Number
left_shift_of a b = Some (signed_of ((uint32_of a * 2 ^ distance_of b) % 2 ^ 32))

-- a >> b (11.7.2): the signed integer divided and rounded down
abbrev pub right_shift_of : Number → Number → Number
right_shift_of a b = Some (int_div_euclid (int32_of a) (pos (2 ^ distance_of b)))

-- a >>> b (11.7.3): the unsigned integer divided and rounded down
abbrev pub unsigned_right_shift_of : Number → Number → Number
unsigned_right_shift_of a b = Some (pos (uint32_of a / 2 ^ distance_of b))

-- a & b, a | b and a ^ b (11.10)
abbrev pub and_of : Number → Number → Number
and_of a b = Some (signed_of (bit_and (uint32_of a) (uint32_of b)))

abbrev pub or_of : Number → Number → Number
or_of a b = Some (signed_of (bit_or (uint32_of a) (uint32_of b)))

abbrev pub xor_of : Number → Number → Number
xor_of a b = Some (signed_of (bit_xor (uint32_of a) (uint32_of b)))

-- ~a (11.4.8)
abbrev pub complement_of : Number → Number
complement_of a = Some (signed_of (bit_not w32 (uint32_of a)))
