-- In a text between quotes each surrogate has its partner, since one that has none is written as an escape.
use Rattle.std.proofs.Common.{◌≡◌, ℕ, ◌+◌, ◌/◌, ◌%◌, ◌<◌, ◌≤◌, ◌^◌, ◌⊎◌, inl, inr, Bool, true, false, not}
use Rattle.std.proofs.Common.{◌&&◌, ◌||◌, ◌==◌, refl, ap, sym, ◌∙◌, subst, List, [], ◌∷◌, ◌++◌, Option, None, Some}
use Rattle.std.proofs.Common.{is_some, arith, append_assoc}
use Rattle.std.specs.Prelude.{All, nat_lt, nat_le, if◌then◌else◌, slice_index}
use Rattle.std.specs.List.{list_any, list_all}
use Rattle.std.specs.Char.{digit_char}
use Rattle.std.specs.Char.Utf16.{utf16_chars, has_unpaired_surrogate, is_high_surrogate, is_low_surrogate}
use Rattle.std.proofs.lemmas.Bool.{and_parts, cases_lt, false≢true, le-leb, leb-true, le-ltb, lt-leb, lt-ltb, ltb-true}
use Rattle.std.proofs.lemmas.Bool.{ne_eqb}
use Rattle.std.proofs.lemmas.List.Elements.{All-append, All-cons, All-head, All-nil, All-tail}
use Rattle.std.proofs.lemmas.Str.{utf16_chars_lone, utf16_chars_pair}
use Rattle.std.proofs.str.Utf16.{IsPair, lone_unit_char_low, lone_unit_char_high}
use Rattle.jl_text.specs.Quoted.{short_escape, is_hidden, is_lone, unicode_escape, quoted_unit, quoted_after, quote}

abbrev pub AreUnits : List ℕ → Type 0
AreUnits us = All (λ u. u < 2 ^ 16) us

-- units of whole characters: whatever follows them, no surrogate of these is without its partner
pub record AreWhole (us : List ℕ) : Type 0 where
  pub small : AreUnits us
  pub before : (v : List ℕ) → has_unpaired_surrogate (us ++ v) ≡ has_unpaired_surrogate v

pub none : AreWhole []
none = record { small = All-nil (λ u. u < 2 ^ 16); before = λ v. refl }

pub joined : (a b : List ℕ) → AreWhole a → AreWhole b → AreWhole (a ++ b)
joined a b p q = record {
  small = All-append (λ u. u < 2 ^ 16) a b p.small q.small;
  before = λ v. ap has_unpaired_surrogate (append_assoc a b v) ∙ p.before (b ++ v) ∙ q.before v;
}

-- u is no surrogate
abbrev IsCharacter : ℕ → Type 0
IsCharacter u = (u < 0xD800) ⊎ ((0xE000 ≤ u) × (u < 0x1_0000))

character : (u : ℕ) (us : List ℕ) → IsCharacter u → AreWhole us → AreWhole (u ∷ us)
character u us (inl low) p = record {
  small = All-cons (λ u. u < 2 ^ 16) u us (omega arith) p.small;
  before = λ v.
      ap (list_any (λ o. not (is_some o))) (utf16_chars_lone u (us ++ v) (λ pair. omega (arith, pair.0))
      ∙ ap (λ o. o ∷ utf16_chars (us ++ v)) (lone_unit_char_low u low)) ∙ p.before v;
}
character u us (inr high) p = record {
  small = All-cons (λ u. u < 2 ^ 16) u us high.1 p.small;
  before = λ v.
      ap (list_any (λ o. not (is_some o))) (utf16_chars_lone u (us ++ v) (λ pair. omega (arith, pair.1, high.0))
      ∙ ap (λ o. o ∷ utf16_chars (us ++ v)) (lone_unit_char_high u high.0)) ∙ p.before v;
}

pub low : (u : ℕ) (us : List ℕ) → u < 0xD800 → AreWhole us → AreWhole (u ∷ us)
low u us l p = character u us (inl l) p

pair : (u v : ℕ) (us : List ℕ) → IsPair u v → AreWhole us → AreWhole (u ∷ v ∷ us)
pair u v us is p = record {
  small = All-cons (λ u. u < 2 ^ 16) u (v ∷ us) (omega (arith, is.1))
      (All-cons (λ u. u < 2 ^ 16) v us (omega (arith, is.3)) p.small);
  before = λ w. ap (list_any (λ o. not (is_some o))) (utf16_chars_pair u v (us ++ w) is) ∙ p.before w;
}

pub ascii : (us : List ℕ) → list_all (λ u. nat_lt u 128) us ≡ true → AreWhole us
ascii [] h = none
ascii (u ∷ us) h =
    let b = and_parts (nat_lt u 128) (list_all (λ u. nat_lt u 128) us) h in
    let below : u < 128 = ltb-true u 128 b.0 in
    low u us (omega arith) (ascii us b.1)

-- ---- escapes

by_digit : (d : ℕ) (test : Bool) → d < 16 → (if test then 48 + d else 87 + d) < 0xD800
by_digit d true h = omega arith
by_digit d false h = omega arith

hex_digit : (d : ℕ) (us : List ℕ) → d < 16 → AreWhole us → AreWhole (digit_char d ∷ us)
hex_digit d us h p = low (digit_char d) us (by_digit d (nat_lt d 10) h) p

escape_is_whole : (u : ℕ) → u < 2 ^ 16 → AreWhole (unicode_escape u)
escape_is_whole u h =
    low 0x5C _ (omega arith) (low 0x75 _ (omega arith)
    (hex_digit (u / 0x1000) _ (omega arith) (hex_digit (u / 0x100 % 0x10) _ (omega arith)
    (hex_digit (u / 0x10 % 0x10) _ (omega arith) (hex_digit (u % 0x10) [] (omega arith) none)))))

-- how a unit is written, where it has a letter of its own and where it hasn't
abbrev shown : Option ℕ → List ℕ → List ℕ
shown None other = other
shown (Some letter) other = 0x5C ∷ letter ∷ []

letter_or : (b : Bool) (k : ℕ) (o : Option ℕ) (other : List ℕ) → k < 128 → AreWhole (shown o other)
    → AreWhole (shown (if b then Some k else o) other)
letter_or true k o other h p = low 0x5C (k ∷ []) (omega arith) (low k [] (omega arith) none)
letter_or false k o other h p = p

shown_is_whole : (u : ℕ) (other : List ℕ) → AreWhole other → AreWhole (shown (short_escape u) other)
shown_is_whole u other p =
    letter_or (u == 0x22) 0x22 _ other (omega arith) (letter_or (u == 0x5C) 0x5C _ other (omega arith)
    (letter_or (u == 0x0A) 0x6E _ other (omega arith) (letter_or (u == 0x0D) 0x72 _ other (omega arith)
    (letter_or (u == 0x09) 0x74 _ other (omega arith) (letter_or (u == 0x08) 0x62 _ other (omega arith)
    (letter_or (u == 0x0C) 0x66 None other (omega arith) p))))))

-- ---- surrogates

high_bounds : (u : ℕ) → is_high_surrogate u ≡ true → (0xD800 ≤ u) × (u < 0xDC00)
high_bounds u h = let b = and_parts (nat_le 0xD800 u) (nat_lt u 0xDC00) h in
    (leb-true 0xD800 u b.0, ltb-true u 0xDC00 b.1)

low_bounds : (u : ℕ) → is_low_surrogate u ≡ true → (0xDC00 ≤ u) × (u < 0xE000)
low_bounds u h = let b = and_parts (nat_le 0xDC00 u) (nat_lt u 0xE000) h in
    (leb-true 0xDC00 u b.0, ltb-true u 0xE000 b.1)

false_unless : (b : Bool) → (b ≡ true → ⊥) → b ≡ false
false_unless true h = absurd (h refl)
false_unless false h = refl

-- a surrogate with a partner stands for itself
partner : (before u after : ℕ) → 0xD800 ≤ u → u < 0xE000 → is_lone before u after ≡ false
    → quoted_unit before u after ≡ u ∷ []
partner before u after from below h =
    let differs : (k : ℕ) → k < 0xD800 → (u == k) ≡ false = λ k l. ne_eqb u k (λ e. omega arith) in
    rw (
      differs 0x22 (omega arith),
      differs 0x5C (omega arith),
      differs 0x0A (omega arith),
      differs 0x0D (omega arith),
      differs 0x09 (omega arith),
      differs 0x08 (omega arith),
      differs 0x0C (omega arith),
      le-ltb u 0x20 (omega arith),
      le-leb 0x7F u (omega arith),
      lt-leb u 0x9F (omega arith),
      differs 0x2028 (omega arith),
      differs 0x2029 (omega arith),
      h,
    ) refl

-- the first of a pair and the second, each written as itself
pair_is : (before u v after : ℕ) → is_high_surrogate u ≡ true → is_low_surrogate v ≡ true
    → (quoted_unit before u v ≡ u ∷ []) × (quoted_unit u v after ≡ v ∷ [])
pair_is before u v after high second =
    let a = high_bounds u high in
    let b = low_bounds v second in
    let u_high : is_low_surrogate u ≡ false =
    false_unless (is_low_surrogate u) (λ e. let c = low_bounds u e in omega arith) in
    let v_low : is_high_surrogate v ≡ false =
    false_unless (is_high_surrogate v) (λ e. let c = high_bounds v e in omega arith) in (
      partner before u v a.0 (omega (arith, a.1)) (rw (high, second, u_high) refl),
      partner u v after (omega (arith, b.0)) b.1 (rw (high, second, v_low) refl),
    )

-- the unit u begins no pair with what follows it, and ends none with what is before it
record Apart (before u after : ℕ) : Type 0 where
  first : (is_high_surrogate u && is_low_surrogate after) ≡ false
  second : is_high_surrogate before ≡ true → is_low_surrogate u ≡ false

no_pair : (a b : Bool) → a ≡ true → (a && b) ≡ false → b ≡ false
no_pair true b e f = f
no_pair false b e f = absurd cc

not_both : (a b : Bool) → a ≡ true → (b ≡ true → a ≡ false) → b ≡ false
not_both a true e f = absurd (false≢true (sym (f refl) ∙ e))
not_both a false e f = refl

lone_first : (before u after : ℕ) → Apart before u after → is_high_surrogate u ≡ true → is_lone before u after ≡ true
lone_first before u after p h = rw (h, no_pair (is_high_surrogate u) (is_low_surrogate after) h p.first) refl

lone_second : (before u after : ℕ) → Apart before u after → is_low_surrogate u ≡ true → is_lone before u after ≡ true
lone_second before u after p h =
    rw (h, not_both (is_low_surrogate u) (is_high_surrogate before) h p.second)
    (by (is_high_surrogate u && not (is_low_surrogate after)))
  where
    by : (b : Bool) → (b || true) ≡ true
    by true = refl
    by false = refl

-- so it is no surrogate, where it is not lone
apart : (before u after : ℕ) → u < 2 ^ 16 → Apart before u after → is_lone before u after ≡ false → IsCharacter u
apart before u after small p h = elim (cases_lt u 0xD800) [
  | inl below ↦ inl below
  | inr from ↦ elim (cases_lt u 0xE000) [
    | inr high ↦ inr (high, small)
    | inl below ↦ elim (cases_lt u 0xDC00) [
      | inl first ↦ absurd (false≢true (sym h ∙ lone_first before u after p
          (rw (le-leb 0xD800 u from, lt-ltb u 0xDC00 first) refl)))
      | inr second ↦ absurd (false≢true (sym h ∙ lone_second before u after p
          (rw (le-leb 0xDC00 u second, lt-ltb u 0xE000 below) refl)))
    ]
  ]
]

written : (before u after : ℕ)
    → shown (short_escape u) (if is_hidden u || is_lone before u after then unicode_escape u else u ∷ [])
    ≡ quoted_unit before u after
written before u after = refl

unit_is_whole : (before u after : ℕ) → u < 2 ^ 16 → Apart before u after → AreWhole (quoted_unit before u after)
unit_is_whole before u after small p =
    subst AreWhole (written before u after)
    (shown_is_whole u (if is_hidden u || is_lone before u after then unicode_escape u else u ∷ [])
    (choose (is_hidden u) (is_lone before u after) refl))
  where
    choose : (x y : Bool) → is_lone before u after ≡ y → AreWhole (if x || y then unicode_escape u else u ∷ [])
    choose true y k = escape_is_whole u small
    choose false true k = escape_is_whole u small
    choose false false k = character u [] (apart before u after small p k) none

-- ---- the text

and_false : (a : Bool) → (a && false) ≡ false
and_false true = refl
and_false false = refl

true_or_false : (a : Bool) → (a ≡ true) ⊎ (a ≡ false)
true_or_false true = inl refl
true_or_false false = inr refl

quoted_is_whole : (before : ℕ) (us : List ℕ) → AreUnits us
    → (is_high_surrogate before ≡ true → is_low_surrogate (slice_index us 0) ≡ false)
    → AreWhole (quoted_after before us)
quoted_is_whole before [] small h = none
quoted_is_whole before (u ∷ []) small h =
    joined (quoted_unit before u 0) []
    (unit_is_whole before u 0 (All-head (λ u. u < 2 ^ 16) u [] small)
    (record { first = and_false (is_high_surrogate u); second = h })) none
quoted_is_whole before (u ∷ v ∷ us) small h = elim (true_or_false (is_high_surrogate u && is_low_surrogate v)) [
  | inl e ↦ (let both = and_parts (is_high_surrogate u) (is_low_surrogate v) e in
      let parts = pair_is before u v (slice_index us 0) both.0 both.1 in
      let a = high_bounds u both.0 in
      let b = low_bounds v both.1 in
      rw (parts.0, parts.1) (pair u v (quoted_after v us) (a.0, a.1, b.0, b.1)
      (quoted_is_whole v us
      (All-tail (λ u. u < 2 ^ 16) v us (All-tail (λ u. u < 2 ^ 16) u (v ∷ us) small))
      (λ f. let c = high_bounds v f in absurd (omega arith)))))
  | inr e ↦ joined (quoted_unit before u v) (quoted_after u (v ∷ us))
      (unit_is_whole before u v (All-head (λ u. u < 2 ^ 16) u (v ∷ us) small) (record { first = e; second = h }))
      (quoted_is_whole u (v ∷ us) (All-tail (λ u. u < 2 ^ 16) u (v ∷ us) small)
      (λ f. no_pair (is_high_surrogate u) (is_low_surrogate v) f e))
]

pub quote_is_whole : (us : List ℕ) → AreUnits us → AreWhole (quote us)
quote_is_whole us small =
    low 0x22 _ (omega arith)
    (joined (quoted_after 0 us) (0x22 ∷ []) (quoted_is_whole 0 us small (λ e. absurd (cc)))
    (low 0x22 [] (omega arith) none))
