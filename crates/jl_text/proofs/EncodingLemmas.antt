-- Characters in UTF-16 and back.
use Rattle.std.proofs.Common.{◌≡◌, ℕ, ◌+◌, ◌-◌, ◌/◌, ◌%◌, ◌<◌, ◌≤◌, ◌⊎◌, inl, inr, List, [], ◌∷◌, ◌++◌, true, map, refl}
use Rattle.std.proofs.Common.{sym, ap, ◌∙◌, append_assoc, arith, Some}
use Rattle.std.proofs.lemmas.Str.{encodes-chars, scalars-chars, utf16_chars-nil, utf16_chars_lone, utf16_chars_pair}
use Rattle.std.proofs.str.Utf16.{IsPair, one_unit, two_units, lone_unit_char_low, lone_unit_char_high}
use Rattle.std.proofs.str.Laws.{both}
use Rattle.std.proofs.lemmas.Bool.{cases_lt}
use Rattle.std.specs.Option.{unwrap_or}
use Rattle.std.specs.Str.{chars}
use Rattle.std.specs.Char.Escape.{encode_utf16}
use Rattle.std.specs.Char.Utf16.{utf16_chars, utf16_lossy_chars, surrogate_pair_char}
use lib.Utf8.{scalar, scalars, scalar_cases, encodes}
use Rattle.jl_text.specs.Encoding.{encode_utf16_all, Utf8ComesBack}

pub encode_utf16_all-append : (cs ds : List ℕ) → encode_utf16_all (cs ++ ds)
    ≡ encode_utf16_all cs ++ encode_utf16_all ds
encode_utf16_all-append [] ds = refl
encode_utf16_all-append (c ∷ cs) ds =
    ap (λ us. encode_utf16 c ++ us) (encode_utf16_all-append cs ds)
    ∙ sym (append_assoc (encode_utf16 c) (encode_utf16_all cs) (encode_utf16_all ds))

first_lone : (c : ℕ) (us : List ℕ) → c < 0x1_0000 → (c < 0xD800 ⊎ (0xE000 ≤ c))
    → utf16_chars (encode_utf16 c ++ us) ≡ Some c ∷ utf16_chars us
first_lone c us small (inl low) =
    rw (one_unit c small)
    (utf16_chars_lone c us (λ pair. omega (arith, pair.0)) ∙ ap (λ o. o ∷ utf16_chars us) (lone_unit_char_low c low))
first_lone c us small (inr high) = rw (one_unit c small)
    (utf16_chars_lone c us (λ pair. omega (arith, pair.1)) ∙ ap (λ o. o ∷ utf16_chars us) (lone_unit_char_high c high))

first_pair : (c : ℕ) (us : List ℕ) → 0x1_0000 ≤ c → c < 0x11_0000
    → utf16_chars (encode_utf16 c ++ us) ≡ Some c ∷ utf16_chars us
first_pair c us large within =
    let high : ℕ = 0xD800 + (c - 0x1_0000) / 0x400 in
    let low : ℕ = 0xDC00 + (c - 0x1_0000) % 0x400 in
    let pair : IsPair high low = (omega arith, omega arith, omega arith, omega arith) in
    let same : surrogate_pair_char high low ≡ c = omega arith in
    rw (two_units c large) (utf16_chars_pair high low us pair ∙ ap (λ d. Some d ∷ utf16_chars us) same)

first_char : (c : ℕ) (us : List ℕ) → scalar c ≡ true → utf16_chars (encode_utf16 c ++ us) ≡ Some c ∷ utf16_chars us
first_char c us is =
    elim (cases_lt c 0x1_0000) [
      | inl small ↦ elim (scalar_cases c is) [
        | inl low ↦ first_lone c us small (inl low)
        | inr high ↦ first_lone c us small (inr high.0)
      ]
      | inr large ↦ elim (scalar_cases c is) [
        | inl low ↦ absurd (omega arith)
        | inr high ↦ first_pair c us large high.1
      ]
    ]

pub utf16_chars-encode_utf16_all : (cs : List ℕ) → scalars cs ≡ true → utf16_lossy_chars (encode_utf16_all cs) ≡ cs
utf16_chars-encode_utf16_all [] is = ap (map (λ o. unwrap_or o 0xFFFD)) utf16_chars-nil
utf16_chars-encode_utf16_all (c ∷ cs) is =
    let parts = both _ _ is in
    ap (map (λ o. unwrap_or o 0xFFFD)) (first_char c (encode_utf16_all cs) parts.0)
    ∙ ap (λ ds. c ∷ ds) (utf16_chars-encode_utf16_all cs parts.1)

pub comes_back : Utf8ComesBack
comes_back bytes utf8 = ap encodes (utf16_chars-encode_utf16_all (chars bytes) (scalars-chars bytes utf8))
    ∙ encodes-chars bytes utf8
