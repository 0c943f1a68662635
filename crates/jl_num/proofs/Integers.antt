-- The integers of 32 and of 16 bits that a number stands for.
use Rattle.std.proofs.Common.{◌≡◌, ℕ, ◌/◌, ◌^◌, ◌<◌, ◌≤◌, ℤ, pos, negsuc, ◌+ℤ◌, ◌-ℤ◌, ◌*ℤ◌, ◌≤ℤ◌, ◌<ℤ◌, Some, None}
use Rattle.std.proofs.Common.{Bool, true, false, nat_lt, refl, ap, arith}
use Rattle.std.proofs.lemmas.Int.{ints}
use Rattle.std.proofs.lemmas.Bool.Decides.{nat_tests}
use Rattle.std.proofs.lemmas.Nat.{mod_below, div-add-mod'}
use Rattle.std.specs.Prelude.{if◌then◌else◌}
use Rattle.jl_num.specs.Number.{Number, IsNumber}
use Rattle.jl_num.specs.Bits.{modulo, uint32_of, signed_of, int32_of}
use Rattle.jl_num.specs.Laws.{AreCongruent, IntegersStandForNumbers}

modulo_below : (z : ℤ) (m : ℕ) → 0 < m → modulo z m < m
modulo_below (pos n) m h = mod_below n m h
modulo_below (negsuc n) m h = omega arith

modulo_congruent : (z : ℤ) (m : ℕ) → 0 < m → AreCongruent m z (pos (modulo z m))
modulo_congruent (pos n) m h = (pos (n / m), ap pos (div-add-mod' n m))
modulo_congruent (negsuc n) m h =
    let left = mod_below n m h in
    let whole = div-add-mod' n m in
    (negsuc (n / m), omega (arith, ints))

pub below_32 : (a : Number) → uint32_of a < 2 ^ 32
below_32 None = omega arith
below_32 (Some z) = modulo_below z (2 ^ 32) (omega arith)

-- the signed integer of 32 bits, by halves
pub record IsSigned (n : ℕ) (z : ℤ) : Type 0 where
  pub turns : ℕ
  pub sum : pos turns *ℤ pos (2 ^ 32) +ℤ z ≡ pos n
  pub from : negsuc 2147483647 ≤ℤ z
  pub below : z <ℤ pos 2147483648

pub is_signed : (n : ℕ) → n < 2 ^ 32 → IsSigned n (signed_of n)
is_signed n h = by_test (nat_lt n (2 ^ 31)) refl
  where
    by_test : (t : Bool) → nat_lt n (2 ^ 31) ≡ t → IsSigned n (if t then pos n else pos n -ℤ pos (2 ^ 32))
    by_test true e =
        let low : n < 2 ^ 31 = grind (arith, nat_tests) in
        record { turns = 0; sum = omega (arith, ints); from = omega (arith, ints); below = omega (arith, ints) }
    by_test false e =
        let high : 2 ^ 31 ≤ n = grind (arith, nat_tests) in
        record { turns = 1; sum = omega (arith, ints); from = omega (arith, ints); below = omega (arith, ints) }

signed_congruent : (z : ℤ) → AreCongruent (2 ^ 32) z (int32_of (Some z))
signed_congruent z =
    let c = modulo_congruent z (2 ^ 32) (omega arith) in
    let s = is_signed (modulo z (2 ^ 32)) (below_32 (Some z)) in
    let first = c.1 in
    let second = s.sum in
    (c.0 +ℤ pos s.turns, omega (arith, ints))

pub integers_stand_for_numbers : IntegersStandForNumbers
integers_stand_for_numbers z = record {
  int32 = signed_congruent z;
  int32_from = (is_signed (uint32_of (Some z)) (below_32 (Some z))).from;
  int32_below = (is_signed (uint32_of (Some z)) (below_32 (Some z))).below;
  uint32 = modulo_congruent z (2 ^ 32) (omega arith);
  uint32_below = below_32 (Some z);
  uint16 = modulo_congruent z (2 ^ 16) (omega arith);
  uint16_below = modulo_below z (2 ^ 16) (omega arith);
}

-- ---- numbers of a script

pub signed_is_number : (n : ℕ) → n < 2 ^ 32 → IsNumber (Some (signed_of n))
signed_is_number n h =
    let s = is_signed n h in
    let low = s.from in
    let high = s.below in (omega (arith, ints), omega (arith, ints))
