-- How many bytes of UTF-8 a text takes.
use Rattle.std.proofs.Common.{◌≡◌, ℕ, ◌+◌, ◌*◌, ◌<◌, ◌≤◌, inl, inr, List, [], ◌∷◌, ◌++◌, length, length-append}
use Rattle.std.proofs.Common.{Bool, true, false, ◌&&◌, Option, Some, map, refl, ap, arith}
use Rattle.std.proofs.lemmas.Bool.{cases_lt}
use Rattle.std.proofs.lemmas.Bool.Decides.{nat_tests}
use Rattle.std.proofs.lemmas.Str.{encodes-chars, length-encode, len_utf8_ascii, len_utf8_bounds, utf16_chars-nil}
use Rattle.std.proofs.str.Utf16.{lone_unit_char_low, one_unit, two_units}
use Rattle.std.specs.Prelude.{nat_lt}
use Rattle.std.specs.Char.{len_utf8}
use Rattle.std.specs.Char.Escape.{encode_utf16}
use Rattle.std.specs.Char.Utf16.{is_high_surrogate, is_low_surrogate, lone_unit_char, surrogate_pair_char}
use Rattle.std.specs.Char.Utf16.{utf16_chars, utf16_lossy_chars}
use Rattle.std.specs.Option.{unwrap_or}
use Rattle.std.specs.Str.{IsUtf8, chars}
use lib.Utf8.{encode, encodes}
use Rattle.jl_text.specs.Encoding.{bytes_of, encode_utf16_all, units_of}
use Rattle.jl_read_back.specs.inner.Bytes.{excess, most_bytes, text_weight, unit_bytes}

-- a unit counts as one, and any other number as `heavy` more
pub excess_none : (heavy u : ℕ) → u < 0x1_0000 → excess heavy u ≡ 0
excess_none heavy u h = let b : nat_lt u 0x1_0000 ≡ true = grind (arith, nat_tests) in rw b refl

pub excess_heavy : (heavy u : ℕ) → 0x1_0000 ≤ u → excess heavy u ≡ heavy
excess_heavy heavy u h = let b : nat_lt u 0x1_0000 ≡ false = grind (arith, nat_tests) in rw b refl

module _ (heavy : ℕ) where
  -- a unit of ASCII, and any other
  pub one_byte : (u : ℕ) → u < 128 → unit_bytes heavy u ≡ 1
  one_byte u h =
      let a = excess_none heavy u (omega arith) in let b : nat_lt u 128 ≡ true = grind (arith, nat_tests) in
      rw (b, a) refl

  pub four_bytes : (u : ℕ) → 128 ≤ u → unit_bytes heavy u ≡ 4 + 4 * excess heavy u
  four_bytes u h = let b : nat_lt u 128 ≡ false = grind (arith, nat_tests) in rw b refl

  pub unit_few : (u : ℕ) → (1 + excess heavy u ≤ unit_bytes heavy u) × (unit_bytes heavy u ≤ 4 + 4 * excess heavy u)
  unit_few u = elim (cases_lt u 128) [
    | inl low ↦ (let a = one_byte u low in let b = excess_none heavy u (omega arith) in (omega arith, omega arith))
    | inr high ↦ (let a = four_bytes u high in (omega arith, omega arith))
  ]

  pub bytes_append : (a b : List ℕ) → most_bytes heavy (a ++ b) ≡ most_bytes heavy a + most_bytes heavy b
  bytes_append [] b = omega arith
  bytes_append (u ∷ a) b = omega (arith, bytes_append a b)

  -- what is put together weighs what its parts do, and no less than it is long
  pub weight_append : (a b : List ℕ) → text_weight heavy (a ++ b) ≡ text_weight heavy a + text_weight heavy b
  weight_append [] b = omega arith
  weight_append (u ∷ a) b = omega (arith, weight_append a b)

  pub long_weight : (l : List ℕ) → length l ≤ text_weight heavy l
  long_weight [] = omega arith
  long_weight (u ∷ us) = omega (arith, long_weight us)

  -- no fewer bytes than units, and at most four for each
  pub fewer_units : (l : List ℕ) → text_weight heavy l ≤ most_bytes heavy l
  fewer_units [] = omega arith
  fewer_units (u ∷ us) = let a = unit_few u in let b = fewer_units us in omega arith

  pub bytes_few : (l : List ℕ) → most_bytes heavy l ≤ 4 * text_weight heavy l
  bytes_few [] = omega arith
  bytes_few (u ∷ us) = let a = unit_few u in let b = bytes_few us in omega arith

  -- the first character of a text
  begun : (units us : List ℕ) (o : Option ℕ) → utf16_chars units ≡ o ∷ utf16_chars us
      → length (bytes_of units) ≡ len_utf8 (unwrap_or o 0xFFFD) + length (bytes_of us)
  begun units us o e =
      let whole = ap (λ os. length (encodes (map (λ o. unwrap_or o 0xFFFD) os))) e in
      omega (
        arith,
        whole,
        length-append (encode (unwrap_or o 0xFFFD)) (encodes (utf16_lossy_chars us)),
        length-encode (unwrap_or o 0xFFFD),
      )

  lone_bytes : (u : ℕ) → len_utf8 (unwrap_or (lone_unit_char u) 0xFFFD) ≤ unit_bytes heavy u
  lone_bytes u = elim (cases_lt u 128) [
    | inl low ↦ (
        let a = one_byte u low in let b = len_utf8_ascii u low in
        let c = ap (λ o. len_utf8 (unwrap_or o 0xFFFD)) (lone_unit_char_low u (omega arith)) in omega arith)
    | inr high ↦ (
        let a = four_bytes u high in let b = len_utf8_bounds (unwrap_or (lone_unit_char u) 0xFFFD) in omega arith)
  ]

  high_bytes : (u : ℕ) (b : Bool) → (is_high_surrogate u && b) ≡ true → 4 ≤ unit_bytes heavy u
  high_bytes u b e = let from : 128 ≤ u = grind (arith, nat_tests) in let a = four_bytes u from in omega arith

  low_bytes : (u : ℕ) (b : Bool) → (b && is_low_surrogate u) ≡ true → 4 ≤ unit_bytes heavy u
  low_bytes u b e = let from : 128 ≤ u = grind (arith, nat_tests) in let a = four_bytes u from in omega arith

  -- a pair of surrogates, or one unit
  two_begun : (u v : ℕ) (us : List ℕ) (b : Bool) → (is_high_surrogate u && is_low_surrogate v) ≡ b
      → length (bytes_of us) ≤ most_bytes heavy us → length (bytes_of (v ∷ us)) ≤ most_bytes heavy (v ∷ us)
      → length (bytes_of (u ∷ v ∷ us)) ≤ most_bytes heavy (u ∷ v ∷ us)
  unfolding utf16_chars
  two_begun u v us true e h k =
      let a = begun (u ∷ v ∷ us) us (Some (surrogate_pair_char u v)) (rw e refl) in
      let b = len_utf8_bounds (surrogate_pair_char u v) in
      let c = high_bytes u (is_low_surrogate v) e in let d = low_bytes v (is_high_surrogate u) e in omega arith
  two_begun u v us false e h k =
      let a = begun (u ∷ v ∷ us) (v ∷ us) (lone_unit_char u) (rw e refl) in let b = lone_bytes u in omega arith

  one_begun : (u : ℕ) → length (bytes_of (u ∷ [])) ≤ most_bytes heavy (u ∷ [])
  unfolding utf16_chars
  one_begun u = let a = begun (u ∷ []) [] (lone_unit_char u) refl in let b = lone_bytes u in omega arith

  pub bytes_within : (l : List ℕ) → length (bytes_of l) ≤ most_bytes heavy l
  bytes_within [] = omega (arith, ap (λ os. length (encodes (map (λ o. unwrap_or o 0xFFFD) os))) utf16_chars-nil)
  bytes_within (u ∷ []) = one_begun u
  bytes_within (u ∷ v ∷ us) =
      two_begun u v us (is_high_surrogate u && is_low_surrogate v) refl (bytes_within us) (bytes_within (v ∷ us))

-- a text has no more units than bytes
wide_char : (c : ℕ) → 0x1_0000 ≤ c → 2 ≤ len_utf8 c
wide_char c wide = grind (arith, nat_tests)

char_within : (c : ℕ) → length (encode_utf16 c) ≤ length (encode c)
char_within c = elim (cases_lt c 0x1_0000) [
  | inl small ↦ omega (arith, ap length (one_unit c small), length-encode c, len_utf8_bounds c)
  | inr wide ↦ omega (arith, ap length (two_units c wide), length-encode c, wide_char c wide)
]

chars_within : (cs : List ℕ) → length (encode_utf16_all cs) ≤ length (encodes cs)
chars_within [] = omega arith
chars_within (c ∷ cs) =
    omega (
      arith,
      char_within c,
      chars_within cs,
      length-append (encode_utf16 c) (encode_utf16_all cs),
      length-append (encode c) (encodes cs),
    )

pub units_within : (bytes : List ℕ) → IsUtf8 bytes → length (units_of bytes) ≤ length bytes
units_within bytes utf8 = omega (arith, chars_within (chars bytes), ap length (encodes-chars bytes utf8))
