-- A text between quotes is found as a string with that text.
use Rattle.std.proofs.Common.{◌≡◌, ℕ, suc, ◌+◌, ◌/◌, ◌%◌, ◌<◌, ◌≤◌, ◌⊎◌, inl, inr, Bool, true, false, not}
use Rattle.std.proofs.Common.{◌&&◌, ◌||◌, ◌==◌, refl, ap, ap₂, sym, ◌∙◌, subst, List, [], ◌∷◌, ◌++◌, Some, length}
use Rattle.std.proofs.Common.{arith, append_assoc}
use Rattle.std.specs.Prelude.{nat_eq, nat_le, nat_lt, if◌then◌else◌, slice_index}
use Rattle.std.specs.Char.{digit_char}
use Rattle.std.specs.Char.Utf16.{is_high_surrogate, is_low_surrogate}
use Rattle.std.specs.Int.{is_in_range}
use Rattle.std.proofs.lemmas.Bool.{cases_lt, leb-true, le-leb}
use Rattle.std.proofs.lemmas.Bool.Decides.{nat_tests, leb_tells}
use Rattle.std.proofs.lemmas.List.{length-append}
use Rattle.jl_grammar.specs.Words.{same_text}
use Rattle.jl_text.specs.Quoted.{is_hidden, is_lone, unicode_escape, quoted_unit, quoted_after, quote}
use Rattle.jl_token.specs.Characters.{is_hex_digit, is_digit, are_hex_digits, hex_digit_value, hex_number}
use Rattle.jl_token.specs.Characters.{is_line_terminator}
use Rattle.jl_token.specs.Characters.{single_escape, is_quote}
use Rattle.jl_token.specs.Elements.{Word, Many, no_more, one_more, Character, plain, single, string_text, is_plain}
use Rattle.jl_token.specs.Elements.{unicode_escape as four_digits}
use Rattle.jl_token.specs.inner.Scanner.{found, many, character, string_end, string_done, string_stop, scan, scan_word}
use Rattle.jl_token.specs.declared.token.TokenKind.TheVariants as kinds
use Rattle.jl_token.proofs.Against.{mark_stops}
use Rattle.jl_token.proofs.Rows.{many_whole}
use Rattle.jl_token.proofs.Strings.{reads_character}
use Rattle.jl_token.proofs.Tests.{or_cases, or_false, and_true, true_or_false, is_unit}
use Rattle.jl_token.proofs.Units.{units}

-- a hexadecimal digit is read back
hex_back : (d : ℕ) → d < 16 → (is_hex_digit (digit_char d) ≡ true) × (hex_digit_value (digit_char d) ≡ d)
unfolding is_hex_digit is_digit hex_digit_value
hex_back d h = go (cases_lt d 10)
  where
    go : (d < 10) ⊎ (10 ≤ d) → (is_hex_digit (digit_char d) ≡ true) × (hex_digit_value (digit_char d) ≡ d)
    go (inl l) =
        let e : nat_lt d 10 ≡ true = grind (arith, nat_tests) in
        (rw e (grind (arith, leb_tells)), rw e (grind (arith, leb_tells)))
    go (inr l) =
        let e : nat_lt d 10 ≡ false = grind (arith, nat_tests) in
        (rw e (grind (arith, leb_tells)), rw e (grind (arith, leb_tells)))

-- how a unit is written, and which character of a string that is
record CanonicalTokens (u : ℕ) (ks : List ℕ) : Type 0 where
  itself : Bool
  stands : (us : List ℕ) → Character 34 (ks ++ us) (u ∷ [], itself) us
  same : itself ≡ true → ks ≡ u ∷ []
  longer : itself ≡ false → 1 < length ks

unicode_back : (u : ℕ) → u < 65536 → CanonicalTokens u (unicode_escape u)
unfolding are_hex_digits hex_number
unicode_back u h =
    let a = hex_back (u / 0x1000) (omega arith) in
    let b = hex_back (u / 0x100 % 0x10) (omega arith) in
    let c = hex_back (u / 0x10 % 0x10) (omega arith) in
    let d = hex_back (u % 0x10) (omega arith) in
    let e : are_hex_digits (digit_char (u / 0x1000)) (digit_char (u / 0x100 % 0x10)) (digit_char (u / 0x10 % 0x10))
    (digit_char (u % 0x10)) ≡ true = rw (a.0, b.0, c.0, d.0) refl in
    let f : hex_number (digit_char (u / 0x1000)) (digit_char (u / 0x100 % 0x10)) (digit_char (u / 0x10 % 0x10))
    (digit_char (u % 0x10)) ≡ u = rw (a.1, b.1, c.1, d.1) (omega arith) in
    record {
      itself = false;
      stands = λ us. subst (λ v. Character 34 (unicode_escape u ++ us) (v ∷ [], false) us) f (four_digits e);
      same = λ q. absurd (differ q);
      longer = λ q. omega arith;
    }
  where
    differ : false ≡ true → ⊥
    differ e = cc

single_back : (u letter : ℕ) → single_escape letter ≡ Some u → CanonicalTokens u (92 ∷ letter ∷ [])
single_back u letter e = record {
  itself = false;
  stands = λ us. single e;
  same = λ q. absurd (differ q);
  longer = λ q. omega arith;
}
  where
    differ : false ≡ true → ⊥
    differ e = cc

plain_back : (u : ℕ) → (u == 34 || u == 92 || is_line_terminator u) ≡ false → CanonicalTokens u (u ∷ [])
plain_back u h = record {
  itself = true;
  stands = λ us. plain h;
  same = λ q. refl;
  longer = λ q. absurd (differ q);
}
  where
    differ : true ≡ false → ⊥
    differ e = cc

-- what is written by its number has four digits
less : (u k : ℕ) → nat_lt u k ≡ true → u < k
less u k h = grind (arith, nat_tests)

pub hidden_low : (u : ℕ) → is_hidden u ≡ true → u < 0x2030
hidden_low u h = elim (or_cases _ _ h) [
  | inl a ↦ (let b = less u 32 a in omega arith)
  | inr a ↦ elim (or_cases _ _ a) [
    | inl b ↦ (let c = leb-true u 0x9F (and_true (nat_le 0x7F u) (nat_le u 0x9F) b).1 in omega arith)
    | inr b ↦ elim (or_cases _ _ b) [
      | inl c ↦ (let d = is_unit u 0x2028 c in omega arith)
      | inr c ↦ (let d = is_unit u 0x2029 c in omega arith)
    ]
  ]
]

pub lone_low : (before u after : ℕ) → is_lone before u after ≡ true → u < 65536
lone_low before u after h = elim (or_cases (is_high_surrogate u && not (is_low_surrogate after))
    (is_low_surrogate u && not (is_high_surrogate before)) h) [
      | inl a ↦ (let b = and_true (is_high_surrogate u) (not (is_low_surrogate after)) a in
          let c = less u 0xDC00 (and_true (nat_le 0xD800 u) (nat_lt u 0xDC00) b.0).1 in omega arith)
      | inr a ↦ (let b = and_true (is_low_surrogate u) (not (is_high_surrogate before)) a in
          let c = less u 0xE000 (and_true (nat_le 0xDC00 u) (nat_lt u 0xE000) b.0).1 in omega arith)
    ]

unit_back : (before u after : ℕ) → CanonicalTokens u (quoted_unit before u after)
unfolding single_escape is_line_terminator
unit_back before u after = by34 (true_or_false (u == 0x22))
  where
    at : (k : ℕ) → (u == k) ≡ true → CanonicalTokens k (quoted_unit before k after)
        → CanonicalTokens u (quoted_unit before u after)
    at k e w = subst (λ v. CanonicalTokens v (quoted_unit before v after)) (sym (is_unit u k e)) w

    other : (u == 0x22) ≡ false → (u == 0x5C) ≡ false → (u == 0x0A) ≡ false → (u == 0x0D) ≡ false → (u == 0x09) ≡ false
        → (u == 0x08) ≡ false → (u == 0x0C) ≡ false → CanonicalTokens u (quoted_unit before u after)
    other a b c d e f g = rw (a, b, c, d, e, f, g) (choose (is_hidden u) (is_lone before u after) refl refl)
      where
        choose : (x y : Bool) → is_hidden u ≡ x → is_lone before u after ≡ y
            → CanonicalTokens u (if x || y then unicode_escape u else u ∷ [])
        choose true y h k = unicode_back u (let low = hidden_low u h in omega arith)
        choose false true h k = unicode_back u (lone_low before u after k)
        choose false false h k =
            let p = or_false (nat_lt u 0x20) _ h in
            let q = or_false (is_in_range 0x7F 0x9F u) _ p.1 in
            let r = or_false (u == 0x2028) (u == 0x2029) q.1 in
            plain_back u (rw (a, b, c, d, r.0, r.1) refl)

    by12 : (u == 0x22) ≡ false → (u == 0x5C) ≡ false → (u == 0x0A) ≡ false → (u == 0x0D) ≡ false → (u == 0x09) ≡ false
        → (u == 0x08) ≡ false → ((u == 0x0C) ≡ true) ⊎ ((u == 0x0C) ≡ false)
        → CanonicalTokens u (quoted_unit before u after)
    by12 a b c d e f (inl h) = at 0x0C h (single_back 0x0C 0x66 refl)
    by12 a b c d e f (inr h) = other a b c d e f h

    by8 : (u == 0x22) ≡ false → (u == 0x5C) ≡ false → (u == 0x0A) ≡ false → (u == 0x0D) ≡ false → (u == 0x09) ≡ false
        → ((u == 0x08) ≡ true) ⊎ ((u == 0x08) ≡ false) → CanonicalTokens u (quoted_unit before u after)
    by8 a b c d e (inl h) = at 0x08 h (single_back 0x08 0x62 refl)
    by8 a b c d e (inr h) = by12 a b c d e h (true_or_false (u == 0x0C))

    by9 : (u == 0x22) ≡ false → (u == 0x5C) ≡ false → (u == 0x0A) ≡ false → (u == 0x0D) ≡ false
        → ((u == 0x09) ≡ true) ⊎ ((u == 0x09) ≡ false) → CanonicalTokens u (quoted_unit before u after)
    by9 a b c d (inl h) = at 0x09 h (single_back 0x09 0x74 refl)
    by9 a b c d (inr h) = by8 a b c d h (true_or_false (u == 0x08))

    by13 : (u == 0x22) ≡ false → (u == 0x5C) ≡ false → (u == 0x0A) ≡ false
        → ((u == 0x0D) ≡ true) ⊎ ((u == 0x0D) ≡ false) → CanonicalTokens u (quoted_unit before u after)
    by13 a b c (inl h) = at 0x0D h (single_back 0x0D 0x72 refl)
    by13 a b c (inr h) = by9 a b c h (true_or_false (u == 0x09))

    by10 : (u == 0x22) ≡ false → (u == 0x5C) ≡ false → ((u == 0x0A) ≡ true) ⊎ ((u == 0x0A) ≡ false)
        → CanonicalTokens u (quoted_unit before u after)
    by10 a b (inl h) = at 0x0A h (single_back 0x0A 0x6E refl)
    by10 a b (inr h) = by13 a b h (true_or_false (u == 0x0D))

    by92 : (u == 0x22) ≡ false → ((u == 0x5C) ≡ true) ⊎ ((u == 0x5C) ≡ false)
        → CanonicalTokens u (quoted_unit before u after)
    by92 a (inl h) = at 0x5C h (single_back 0x5C 0x5C refl)
    by92 a (inr h) = by10 a h (true_or_false (u == 0x0A))

    by34 : ((u == 0x22) ≡ true) ⊎ ((u == 0x22) ≡ false) → CanonicalTokens u (quoted_unit before u after)
    by34 (inl h) = at 0x22 h (single_back 0x22 0x22 refl)
    by34 (inr h) = by92 h (true_or_false (u == 0x5C))

-- the characters of what is written, and whether nothing in it is escaped
record Quotes (before : ℕ) (t : List ℕ) : Type 0 where
  characters : List (List ℕ × Bool)
  stand : (rest : List ℕ) → Many (Character 34) (quoted_after before t ++ rest) characters rest
  text : string_text characters ≡ t
  same : is_plain characters ≡ true → quoted_after before t ≡ t
  longer : is_plain characters ≡ false → length t < length (quoted_after before t)
  no_shorter : length t ≤ length (quoted_after before t)

quotes_back : (before : ℕ) (t : List ℕ) → Quotes before t
quotes_back before [] = record {
  characters = [];
  stand = λ rest. no_more;
  text = refl;
  same = λ h. refl;
  longer = λ h. cc;
  no_shorter = omega arith;
}
quotes_back before (u ∷ us) = with_unit (unit_back before u (slice_index us 0)) (quotes_back u us)
  where
    with_unit : CanonicalTokens u (quoted_unit before u (slice_index us 0)) → Quotes u us → Quotes before (u ∷ us)
    with_unit w q =
        let ks = quoted_unit before u (slice_index us 0) in
        let l = length-append ks (quoted_after u us) in
        let n = q.no_shorter in
        record {
          characters = (u ∷ [], w.itself) ∷ q.characters;
          stand = λ rest. subst (λ l. Many (Character 34) l ((u ∷ [], w.itself) ∷ q.characters) rest)
              (sym (append_assoc ks (quoted_after u us) rest))
              (one_more (w.stands (quoted_after u us ++ rest)) (q.stand rest));
          text = ap (λ l. u ∷ l) q.text;
          same = λ h. let p = and_true _ _ h in ap₂ (λ a b. a ++ b) (w.same p.0) (q.same p.1);
          longer = λ h. go w.itself refl h l n;
          no_shorter = some w.itself refl l n;
        }
      where
        ks : List ℕ
        ks = quoted_unit before u (slice_index us 0)

        some : (b : Bool) → w.itself ≡ b → length (ks ++ quoted_after u us) ≡ length ks + length (quoted_after u us)
            → length us ≤ length (quoted_after u us) → suc (length us) ≤ length (ks ++ quoted_after u us)
        some true e l n = let a = ap length (w.same e) in omega arith
        some false e l n = let a = w.longer e in omega arith

        go : (b : Bool) → w.itself ≡ b → (w.itself && is_plain q.characters) ≡ false
            → length (ks ++ quoted_after u us) ≡ length ks + length (quoted_after u us)
            → length us ≤ length (quoted_after u us) → suc (length us) < length (ks ++ quoted_after u us)
        go false e h l n = let a = w.longer e in omega arith
        go true e h l n =
            let a = ap length (w.same e) in
            let b : is_plain q.characters ≡ false = ap (λ c. c && is_plain q.characters) (sym e) ∙ h in
            let c = q.longer b in omega arith

same_refl : (t : List ℕ) → same_text t t ≡ true
same_refl [] = refl
same_refl (u ∷ us) = let e : nat_eq u u ≡ true = grind arith in rw e (same_refl us)

same_length : (s t : List ℕ) → same_text s t ≡ true → length s ≡ length t
same_length [] [] h = refl
same_length [] (v ∷ t) h = cc
same_length (u ∷ s) [] h = cc
same_length (u ∷ s) (v ∷ t) h = ap suc (same_length s t (and_true (nat_eq u v) (same_text s t) h).1)

-- nothing is escaped exactly where a text is written as it is
plain_same : (t : List ℕ) (q : Quotes 0 t) → is_plain q.characters ≡ same_text (quoted_after 0 t) t
plain_same t q = go (is_plain q.characters) refl (same_text (quoted_after 0 t) t) refl
  where
    go : (a : Bool) → is_plain q.characters ≡ a → (b : Bool) → same_text (quoted_after 0 t) t ≡ b
        → is_plain q.characters ≡ same_text (quoted_after 0 t) t
    go true h b g = h ∙ sym (ap (λ s. same_text s t) (q.same h) ∙ same_refl t)
    go false h false g = h ∙ sym g
    go false h true g = let l = q.longer h in let e = same_length (quoted_after 0 t) t g in absurd (omega arith)

begins_string : (us : List ℕ) → scan (34 ∷ us) ≡ string_end 34 (many (character 34) us)
unfolding scan scan_word units
begins_string us = refl

ends_string : (cs : List (List ℕ × Bool)) (rest : List ℕ) → length (string_text cs) ≤ 1048576
    → string_end 34 (cs, 34 ∷ rest) ≡ found (Word (kinds.Str (string_text cs) (is_plain cs))) rest
unfolding string_done string_stop
ends_string cs rest h = rw (le-leb _ _ h) refl

is_mark : is_quote 34 ≡ true
unfolding units
is_mark = refl

pub string_found : (t rest : List ℕ) → length t ≤ 1048576
    → scan (quote t ++ rest) ≡ found (Word (kinds.Str t (same_text (quoted_after 0 t) t))) rest
string_found t rest h =
    let q = quotes_back 0 t in
    let m = many_whole (Character 34) (character 34) (reads_character 34 is_mark) (q.stand (34 ∷ rest))
    (mark_stops 34 rest) in
    let l : length (string_text q.characters) ≤ 1048576 = subst (λ s. length s ≤ 1048576) (sym q.text) h in
    ap (λ us. scan (34 ∷ us)) (append_assoc (quoted_after 0 t) (34 ∷ []) rest)
    ∙ begins_string (quoted_after 0 t ++ 34 ∷ rest) ∙ ap (string_end 34) m ∙ ends_string q.characters rest l
    ∙ ap₂ (λ s p. found (Word (kinds.Str s p)) rest) q.text (plain_same t q)
