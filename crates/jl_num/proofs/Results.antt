-- What an operation gives is a number of a script.
use Rattle.std.proofs.Common.{◌≡◌, ℕ, zero, suc, ◌*◌, ◌%◌, ◌^◌, ◌<◌, ℤ, pos, negsuc, ◌≤ℤ◌, ◌<ℤ◌, Some, None, Bool, true}
use Rattle.std.proofs.Common.{false, arith, bit_and}
use Rattle.std.proofs.lemmas.Int.{ints}
use Rattle.std.proofs.lemmas.Nat.{mod_below, and_le_l, or_lt, xor_lt}
use Rattle.std.proofs.Math.Nat.{div-le_self}
use Rattle.std.specs.Prelude.{if◌then◌else◌}
use Rattle.std.specs.Ordering.{int_eq}
use Rattle.std.specs.Int.{w32, int_pow, int_div_euclid, bit_not}
use Rattle.jl_num.specs.Number.{Number, IsNumber}
use Rattle.jl_num.specs.Arithmetic.{number_of, negative_of}
use Rattle.jl_num.specs.Power.{power_of, inverse_power_of}
use Rattle.jl_num.specs.Bits.{uint32_of, int32_of, distance_of, left_shift_of, right_shift_of, unsigned_right_shift_of}
use Rattle.jl_num.specs.Laws.{ResultsAreNumbers}
use Rattle.jl_num.proofs.Exact.{given, nan_given, sum_gives, difference_gives, product_gives, quotient_gives}
use Rattle.jl_num.proofs.Exact.{remainder_given}
use Rattle.jl_num.proofs.Integers.{below_32, is_signed, signed_is_number}

negative_given : (a : Number) → IsNumber a → IsNumber (negative_of a)
negative_given None h = tt
negative_given (Some z) h = let low = h.0 in let high = h.1 in (omega (arith, ints), omega (arith, ints))

inverse_power_gives : (a : ℤ) (e : ℕ) (c : Number) → inverse_power_of a e ≡ Some c → IsNumber c
inverse_power_gives a e c is = by_tests (int_eq a (pos 1)) (int_eq a (negsuc 0)) is
  where
    by_tests : (s t : Bool)
        → (if s then number_of (int_pow a e) else (if t then number_of (int_pow a e) else None)) ≡ Some c → IsNumber c
    by_tests true t is = given (int_pow a e) c is
    by_tests false true is = given (int_pow a e) c is
    by_tests false false is = cc

power_gives : (a b c : Number) → power_of a b ≡ Some c → IsNumber c
power_gives a None c is = nan_given c is
power_gives a (Some (pos zero)) c is = given (pos 1) c is
power_gives None (Some (pos (suc e))) c is = nan_given c is
power_gives None (Some (negsuc e)) c is = nan_given c is
power_gives (Some a) (Some (pos (suc e))) c is = given (int_pow a (suc e)) c is
power_gives (Some a) (Some (negsuc e)) c is = inverse_power_gives a (suc e) c is

quotient_below : (z : ℤ) (m : ℕ) → negsuc 2147483647 ≤ℤ z → z <ℤ pos 2147483648
    → IsNumber (Some (int_div_euclid z (pos m)))
quotient_below (pos n) m low high = let le = div-le_self n m in (omega (arith, ints), omega (arith, ints))
quotient_below (negsuc n) m low high = let le = div-le_self n m in (omega (arith, ints), omega (arith, ints))

left_shift_given : (a b : Number) → IsNumber (left_shift_of a b)
left_shift_given a b =
    let n = uint32_of a * 2 ^ distance_of b in signed_is_number (n % 2 ^ 32) (mod_below n (2 ^ 32) (omega arith))

right_shift_given : (a b : Number) → IsNumber (right_shift_of a b)
right_shift_given a b =
    let s = is_signed (uint32_of a) (below_32 a) in quotient_below (int32_of a) (2 ^ distance_of b) s.from s.below

unsigned_right_shift_given : (a b : Number) → IsNumber (unsigned_right_shift_of a b)
unsigned_right_shift_given a b =
    let le = div-le_self (uint32_of a) (2 ^ distance_of b) in
    let h = below_32 a in (omega (arith, ints), omega (arith, ints))

and_below : (m n : ℕ) → m < 2 ^ 32 → bit_and m n < 2 ^ 32
and_below m n h = let le = and_le_l m n in omega arith

not_below : (n : ℕ) → bit_not w32 n < 2 ^ 32
not_below n = omega arith

pub results_are_numbers : ResultsAreNumbers
results_are_numbers a b ha hb = record {
  sum = sum_gives a b;
  difference = difference_gives a b;
  product = product_gives a b;
  quotient = quotient_gives a b;
  remainder = remainder_given a b ha;
  negative = negative_given a ha;
  power = power_gives a b;
  left_shift = left_shift_given a b;
  right_shift = right_shift_given a b;
  unsigned_right_shift = unsigned_right_shift_given a b;
  and = signed_is_number _ (and_below (uint32_of a) (uint32_of b) (below_32 a));
  or = signed_is_number _ (or_lt 32 (uint32_of a) (uint32_of b) (below_32 a) (below_32 b));
  xor = signed_is_number _ (xor_lt 32 (uint32_of a) (uint32_of b) (below_32 a) (below_32 b));
  complement = signed_is_number _ (not_below (uint32_of a));
}
