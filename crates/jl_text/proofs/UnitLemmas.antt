-- Units in UTF-16 and back.
use Rattle.std.proofs.Common.{◌≡◌, ℕ, ◌+◌, ◌-◌, ◌*◌, ◌<◌, ◌⊎◌, inl, inr, List, [], ◌∷◌, ◌++◌, true, false, not, refl}
use Rattle.std.proofs.Common.{sym, ap, ◌∙◌, get_or, arith, Some, None, is_some, ◌&&◌, map, ◌^◌, Option}
use Rattle.std.specs.Prelude.{All}
use Rattle.std.specs.List.{list_any}
use Rattle.std.proofs.lemmas.Str.{chars-encodes, utf16_chars-nil, utf16_chars_lone, utf16_chars_pair}
use Rattle.std.proofs.str.Utf16.{IsPair, one_unit, pair_units, lone_unit_char_low, lone_unit_char_high}
use Rattle.std.proofs.str.Utf16.{lone_unit_char_surrogate}
use Rattle.std.proofs.str.Digits.{high_scalar}
use Rattle.std.proofs.lemmas.Bool.{cases_lt}
use Rattle.std.proofs.lemmas.List.Elements.{All-head, All-tail}
use Rattle.std.specs.Option.{unwrap_or}
use Rattle.std.specs.Char.Escape.{encode_utf16}
use Rattle.std.specs.Char.Utf16.{utf16_chars, utf16_lossy_chars, has_unpaired_surrogate, surrogate_pair_char}
use Rattle.std.specs.Char.Utf16.{lone_unit_char}
use lib.Utf8.{scalar, scalars, low_scalar}
use Rattle.jl_text.specs.Encoding.{encode_utf16_all, UnitsComeBack}

-- what units spell is characters, and these give the units
record Spells (units : List ℕ) : Type 0 where
  scalar : scalars (utf16_lossy_chars units) ≡ true
  back : encode_utf16_all (utf16_lossy_chars units) ≡ units

pair_or_not : (u v : ℕ) → IsPair u v ⊎ (¬ (IsPair u v))
pair_or_not u v =
    elim (cases_lt u 0xD800) [
      | inl low ↦ inr (λ p. omega (arith, p.0))
      | inr from ↦ elim (cases_lt u 0xDC00) [
        | inr high ↦ inr (λ p. omega (arith, p.1))
        | inl below ↦ elim (cases_lt v 0xDC00) [
          | inl low ↦ inr (λ p. omega (arith, p.2))
          | inr from_low ↦ elim (cases_lt v 0xE000) [
            | inr high ↦ inr (λ p. omega (arith, p.3))
            | inl below_high ↦ inl (from, below, from_low, below_high)
          ]
        ]
      ]
    ]

-- The first character is c, which these units are, and others follow.
module _ (c : ℕ) (front us units : List ℕ) (is : scalar c ≡ true) (code : encode_utf16 c ≡ front) (whole : front ++ us
    ≡ units)
    (first : utf16_chars units ≡ Some c ∷ utf16_chars us) where
  rest_is_paired : has_unpaired_surrogate units ≡ false → has_unpaired_surrogate us ≡ false
  rest_is_paired paired = sym (ap (list_any (λ o. not (is_some o))) first) ∙ paired

  spelled : Spells us → Spells units
  spelled rest =
      let lossy : utf16_lossy_chars units ≡ c ∷ utf16_lossy_chars us = ap (map (λ o. unwrap_or o 0xFFFD)) first in
      record {
        scalar = ap scalars lossy ∙ ap (λ b. b && scalars (utf16_lossy_chars us)) is ∙ rest.scalar;
        back = ap encode_utf16_all lossy ∙ ap (λ us. encode_utf16 c ++ us) rest.back ∙ ap (λ f. f ++ us) code ∙ whole;
      }

  spells_more : has_unpaired_surrogate units ≡ false → (has_unpaired_surrogate us ≡ false → Spells us) → Spells units
  spells_more paired rest = spelled (rest (rest_is_paired paired))

-- a surrogate without a partner is one
no_lone : (u : ℕ) (us : List ℕ) → utf16_chars (u ∷ us) ≡ None ∷ utf16_chars us → has_unpaired_surrogate (u ∷ us) ≡ false
    → ⊥
no_lone u us first paired =
    let found : true ≡ false = sym (ap (list_any (λ o. not (is_some o))) first) ∙ paired in cc

spells_lone : (u : ℕ) (us : List ℕ) → u < 2 ^ 16 → ¬ (IsPair u (get_or us 0 0)) → has_unpaired_surrogate (u ∷ us)
    ≡ false
    → (has_unpaired_surrogate us ≡ false → Spells us) → Spells (u ∷ us)
spells_lone u us small apart paired rest =
    let first = utf16_chars_lone u us apart in
    let begins : (o : Option ℕ) → lone_unit_char u ≡ o → utf16_chars (u ∷ us) ≡ o ∷ utf16_chars us
    = λ o e. first ∙ ap (λ p. p ∷ utf16_chars us) e in
    let code : encode_utf16 u ≡ u ∷ [] = one_unit u (omega arith) in
    elim (cases_lt u 0xD800) [
      | inl low ↦ spells_more u (u ∷ []) us (u ∷ us) (low_scalar u low) code refl
          (begins (Some u) (lone_unit_char_low u low)) paired rest
      | inr from ↦ elim (cases_lt u 0xE000) [
        | inl below ↦ absurd (no_lone u us (begins None (lone_unit_char_surrogate u from below)) paired)
        | inr high ↦ spells_more u (u ∷ []) us (u ∷ us) (high_scalar u from high (omega arith)) code refl
            (begins (Some u) (lone_unit_char_high u high)) paired rest
      ]
    ]

spells_pair : (u v : ℕ) (us : List ℕ) → IsPair u v → has_unpaired_surrogate (u ∷ v ∷ us) ≡ false
    → (has_unpaired_surrogate us ≡ false → Spells us) → Spells (u ∷ v ∷ us)
spells_pair u v us pair paired rest =
    let c : ℕ = surrogate_pair_char u v in
    let same : c ≡ 0x1_0000 + ((u - 0xD800) * 0x400 + (v - 0xDC00)) = omega arith in
    let code : encode_utf16 c ≡ u ∷ v ∷ [] = ap encode_utf16 same ∙ pair_units u v pair.0 pair.2 pair.3 in
    spells_more c (u ∷ v ∷ []) us (u ∷ v ∷ us)
    (high_scalar c (omega (arith, pair.0, pair.1, pair.2, pair.3)) (omega (arith, pair.0, pair.1, pair.2, pair.3))
    (omega (arith, pair.0, pair.1, pair.2, pair.3))) code refl (utf16_chars_pair u v us pair) paired rest

spells : (units : List ℕ) → All (λ u. u < 2 ^ 16) units → has_unpaired_surrogate units ≡ false → Spells units
spells [] small paired =
    let nothing : utf16_lossy_chars [] ≡ [] = ap (map (λ o. unwrap_or o 0xFFFD)) utf16_chars-nil in
    record { scalar = ap scalars nothing; back = ap encode_utf16_all nothing }
spells (u ∷ []) small paired =
    let unit = All-head (λ u. u < 2 ^ 16) u [] small in
    let units = All-tail (λ u. u < 2 ^ 16) u [] small in
    spells_lone u [] unit (λ p. omega (arith, p.2)) paired (λ p. spells [] units p)
spells (u ∷ v ∷ us) small paired =
    let unit = All-head (λ u. u < 2 ^ 16) u (v ∷ us) small in
    let units = All-tail (λ u. u < 2 ^ 16) u (v ∷ us) small in
    let rest = All-tail (λ u. u < 2 ^ 16) v us units in
    elim (pair_or_not u v) [
      | inl pair ↦ spells_pair u v us pair paired (λ p. spells us rest p)
      | inr apart ↦ spells_lone u (v ∷ us) unit apart paired (λ p. spells (v ∷ us) units p)
    ]

pub units_come_back : UnitsComeBack
units_come_back units small paired =
    let is = spells units small paired in
    ap encode_utf16_all (chars-encodes (utf16_lossy_chars units) is.scalar) ∙ is.back
