-- Texts that have only units of UTF-16, below 2^16.
use Rattle.std.proofs.Common.{◌≡◌, ℕ, ◌+◌, ◌-◌, ◌/◌, ◌%◌, ◌^◌, ◌<◌, inl, inr, List, [], ◌∷◌, length, true}
use Rattle.std.proofs.Common.{refl, sym, subst, arith}
use Rattle.std.proofs.lemmas.Bool.{cases_lt}
use Rattle.std.proofs.lemmas.List.Elements.{All-append, All-cons, All-head, All-nil, All-tail}
use Rattle.std.proofs.lemmas.Str.{scalars-chars}
use Rattle.std.proofs.str.Utf16.{one_unit, two_units}
use Rattle.std.specs.Char.Escape.{encode_utf16}
use Rattle.std.specs.Prelude.{All}
use Rattle.std.specs.Str.{IsUtf8, chars}
use lib.Utf8.{scalar, scalar_cases, scalars}
use Rattle.jl_text.specs.Encoding.{encode_utf16_all, units_of}
use Rattle.jl_token.proofs.Tests.{and_true}
use Rattle.jl_read_back.specs.inner.Bytes.{excess, most_bytes, text_weight}
use Rattle.jl_read_back.proofs.Bytes.{excess_heavy, excess_none, unit_few}

abbrev IsUnit : ℕ → Type 0
IsUnit u = u < 2 ^ 16

-- a text of units weighs what it is long
pub units_weight : (heavy : ℕ) (l : List ℕ) → All IsUnit l → text_weight heavy l ≡ length l
units_weight heavy [] h = refl
units_weight heavy (u ∷ us) h =
    let a = excess_none heavy u (omega (arith, All-head IsUnit u us h)) in
    let b = units_weight heavy us (All-tail IsUnit u us h) in omega arith

-- and so does every text where nothing is heavy
light_excess : (u : ℕ) → excess 0 u ≡ 0
light_excess u = elim (cases_lt u 0x1_0000) [
  | inl small ↦ excess_none 0 u small
  | inr large ↦ excess_heavy 0 u large
]

pub light_weight : (l : List ℕ) → text_weight 0 l ≡ length l
light_weight [] = refl
light_weight (u ∷ us) = let a = light_excess u in let b = light_weight us in omega arith

-- a text whose bytes are fewer than what is heavy has only units
light_unit : (heavy u : ℕ) → excess heavy u < heavy → IsUnit u
light_unit heavy u h = elim (cases_lt u 0x1_0000) [
  | inl small ↦ omega (arith, small)
  | inr large ↦ absurd (omega (arith, excess_heavy heavy u large))
]

pub light_units : (heavy : ℕ) (l : List ℕ) → most_bytes heavy l < heavy → All IsUnit l
light_units heavy [] h = All-nil IsUnit
light_units heavy (u ∷ us) h =
    let a = unit_few heavy u in
    All-cons IsUnit u us (light_unit heavy u (omega arith)) (light_units heavy us (omega arith))

-- and so has a text in UTF-8
scalar_bound : (c : ℕ) → scalar c ≡ true → c < 0x11_0000
scalar_bound c e = elim (scalar_cases c e) [
  | inl low ↦ omega (arith, low)
  | inr high ↦ high.1
]

two_are_units : (u v : ℕ) → IsUnit u → IsUnit v → All IsUnit (u ∷ v ∷ [])
two_are_units u v h k = All-cons IsUnit u (v ∷ []) h (All-cons IsUnit v [] k (All-nil IsUnit))

char_units : (c : ℕ) → scalar c ≡ true → All IsUnit (encode_utf16 c)
char_units c e = elim (cases_lt c 0x1_0000) [
  | inl small ↦ subst (All IsUnit) (sym (one_unit c small)) (
      All-cons IsUnit c [] (omega (arith, small)) (All-nil IsUnit))
  | inr wide ↦ subst (All IsUnit) (sym (two_units c wide)) (
      two_are_units (0xD800 + (c - 0x1_0000) / 0x400) (0xDC00 + (c - 0x1_0000) % 0x400)
      (omega (arith, scalar_bound c e)) (omega arith))
]

chars_units : (cs : List ℕ) → scalars cs ≡ true → All IsUnit (encode_utf16_all cs)
chars_units [] e = All-nil IsUnit
chars_units (c ∷ cs) e =
    let b = and_true (scalar c) (scalars cs) e in
    All-append IsUnit (encode_utf16 c) (encode_utf16_all cs) (char_units c b.0) (chars_units cs b.1)

pub utf8_units : (bytes : List ℕ) → IsUtf8 bytes → All IsUnit (units_of bytes)
utf8_units bytes utf8 = chars_units (chars bytes) (scalars-chars bytes utf8)
