-- The bytes of units of 16 bits are UTF-8.
use Rattle.std.proofs.Common.{◌≡◌, ◌∙◌, ◌^◌, ◌<◌, ◌≤◌, ◌⊎◌, ◌&&◌, ap, arith, inl, inr, refl, true, ℕ, List, [], ◌∷◌}
use Rattle.std.proofs.Common.{map, None, Option, Some}
use Rattle.std.proofs.lemmas.Bool.{cases_lt}
use Rattle.std.proofs.lemmas.List.Elements.{All-head, All-tail}
use Rattle.std.proofs.lemmas.Str.{utf16_chars-nil, utf16_chars_lone, utf16_chars_pair}
use Rattle.std.proofs.str.Digits.{high_scalar}
use Rattle.std.proofs.str.Utf16.{IsPair, lone_unit_char_high, lone_unit_char_low, lone_unit_char_surrogate}
use Rattle.std.specs.Char.Utf16.{lone_unit_char, surrogate_pair_char, utf16_chars, utf16_lossy_chars}
use Rattle.std.specs.Option.{unwrap_or}
use Rattle.std.specs.Prelude.{All}
use Rattle.std.specs.Str.{IsUtf8}
use lib.Utf8.{low_scalar, scalar, scalars}
use Rattle.jl_text.specs.Encoding.{bytes_of}

-- a unit that is in no pair spells a character, or U+FFFD stands for it
lone_scalar : (u : ℕ) → u < 2 ^ 16 → scalar (unwrap_or (lone_unit_char u) 0xFFFD) ≡ true
lone_scalar u small =
    let is : (o : Option ℕ) → lone_unit_char u ≡ o → scalar (unwrap_or o 0xFFFD) ≡ true
    → scalar (unwrap_or (lone_unit_char u) 0xFFFD) ≡ true = λ o e s. ap (λ p. scalar (unwrap_or p 0xFFFD)) e ∙ s in
    elim (cases_lt u 0xD800) [
      | inl low ↦ is (Some u) (lone_unit_char_low u low) (low_scalar u low)
      | inr from ↦ elim (cases_lt u 0xE000) [
        | inl below ↦ is None (lone_unit_char_surrogate u from below) refl
        | inr high ↦ is (Some u) (lone_unit_char_high u high) (high_scalar u from high (omega arith))
      ]
    ]

-- the first character, and those that follow
one_more : (o : Option ℕ) (units us : List ℕ) → utf16_chars units ≡ o ∷ utf16_chars us
    → scalar (unwrap_or o 0xFFFD) ≡ true → scalars (utf16_lossy_chars us) ≡ true
    → scalars (utf16_lossy_chars units) ≡ true
one_more o units us first is rest =
    ap (λ l. scalars (map (λ p. unwrap_or p 0xFFFD) l)) first ∙ ap (λ b. b && scalars (utf16_lossy_chars us)) is ∙ rest

pair_or_not : (u v : ℕ) → IsPair u v ⊎ (¬ (IsPair u v))
pair_or_not u v = pair_of (cases_lt u 0xD800) (cases_lt u 0xDC00) (cases_lt v 0xDC00) (cases_lt v 0xE000)
  where
    pair_of : (u < 0xD800) ⊎ (0xD800 ≤ u) → (u < 0xDC00) ⊎ (0xDC00 ≤ u) → (v < 0xDC00) ⊎ (0xDC00 ≤ v)
        → (v < 0xE000) ⊎ (0xE000 ≤ v) → IsPair u v ⊎ (¬ (IsPair u v))
    pair_of (inr from) (inl below) (inr from_low) (inl below_high) = inl (from, below, from_low, below_high)
    pair_of (inl low) b c d = inr (λ p. omega (arith, p.0))
    pair_of (inr from) (inr high) c d = inr (λ p. omega (arith, p.1))
    pair_of (inr from) (inl below) (inl low) d = inr (λ p. omega (arith, p.2))
    pair_of (inr from) (inl below) (inr from_low) (inr high) = inr (λ p. omega (arith, p.3))

pair_scalar : (u v : ℕ) → IsPair u v → scalar (surrogate_pair_char u v) ≡ true
pair_scalar u v pair =
    high_scalar (surrogate_pair_char u v) (omega (arith, pair.0, pair.1, pair.2, pair.3))
    (omega (arith, pair.0, pair.1, pair.2, pair.3)) (omega (arith, pair.0, pair.1, pair.2, pair.3))

spelled : (units : List ℕ) → All (λ u. u < 2 ^ 16) units → scalars (utf16_lossy_chars units) ≡ true
spelled [] small = ap (λ l. scalars (map (λ p. unwrap_or p 0xFFFD) l)) utf16_chars-nil
spelled (u ∷ []) small =
    one_more (lone_unit_char u) (u ∷ []) [] (utf16_chars_lone u [] (λ p. omega (arith, p.2)))
    (lone_scalar u (All-head (λ u. u < 2 ^ 16) u [] small))
    (spelled [] (All-tail (λ u. u < 2 ^ 16) u [] small))
spelled (u ∷ v ∷ us) small =
    let rest = All-tail (λ u. u < 2 ^ 16) u (v ∷ us) small in
    elim (pair_or_not u v) [
      | inl pair ↦ one_more (Some (surrogate_pair_char u v)) (u ∷ v ∷ us) us (utf16_chars_pair u v us pair)
          (pair_scalar u v pair) (spelled us (All-tail (λ u. u < 2 ^ 16) v us rest))
      | inr apart ↦ one_more (lone_unit_char u) (u ∷ v ∷ us) (v ∷ us) (utf16_chars_lone u (v ∷ us) apart)
          (lone_scalar u (All-head (λ u. u < 2 ^ 16) u (v ∷ us) small)) (spelled (v ∷ us) rest)
    ]

pub bytes_are_utf8 : (units : List ℕ) → All (λ u. u < 2 ^ 16) units → IsUtf8 (bytes_of units)
bytes_are_utf8 units small = (utf16_lossy_chars units, (spelled units small, refl))
