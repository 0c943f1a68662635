-- In a canonical text each surrogate has its partner.
use Rattle.std.proofs.Common.{◌≡◌, ℕ, zero, suc, ◌+◌, ◌/◌, ◌%◌, ◌<◌, ◌≤◌, ◌⊎◌, inl, inr, Bool, true, false, not, ◌&&◌}
use Rattle.std.proofs.Common.{◌||◌, ◌==◌}
use Rattle.std.proofs.Common.{refl, ap, sym, ◌∙◌, subst, List, [], ◌∷◌, ◌++◌, Option, None, Some, is_some, arith}
use Rattle.std.proofs.Common.{append_assoc, append-nil}
use Rattle.std.specs.Prelude.{nat_lt, nat_le, pos, if◌then◌else◌, slice_index}
use Rattle.std.specs.List.{list_any, list_all}
use Rattle.std.specs.Char.{digit_char}
use Rattle.std.specs.Char.Utf16.{utf16_chars, has_unpaired_surrogate, is_high_surrogate, is_low_surrogate}
use Rattle.std.proofs.lemmas.Bool.{cases_lt, le-leb, leb-true, ltb-true, lt-ltb}
use Rattle.std.proofs.lemmas.Bool.Decides.{nat_tests}
use Rattle.std.proofs.lemmas.Str.{utf16_chars-nil, utf16_chars_lone, utf16_chars_pair}
use Rattle.std.proofs.str.Utf16.{IsPair, lone_unit_char_low, lone_unit_char_high}
use Rattle.jl_num.specs.Digits.{digit_code, digits_within, number_text}
use Rattle.jl_text.specs.Quoted.{short_escape, is_hidden, is_lone, unicode_escape, quoted_unit, quoted_after, quote}
use Rattle.jl_text.proofs.SearchLemmas.{false_unless}
use Rattle.jl_token.specs.Characters.{is_identifier_start, is_identifier_part, is_surrogate, category, is_letter}
use Rattle.jl_token.specs.Characters.{is_mark}
use Rattle.jl_token.specs.Punctuators.{punctuator_units}
use Rattle.jl_token.specs.Spelling.{spelling_of}
use Rattle.jl_token.specs.declared.punct.Punct.{Punct}
use Rattle.jl_token.specs.declared.punct.Punct.TheVariants as puncts
use Rattle.jl_token.specs.declared.token.TokenKind.{TokenKind}
use Rattle.jl_token.specs.declared.token.TokenKind.TheVariants as kinds
use Rattle.jl_token.proofs.Tests.{and_true, true_or_false, other_unit, never_both}
use Rattle.jl_print.specs.Layout.{ends_line, is_number, is_dot, joins_right, joins_left, between, layout_of, text_of}
use Rattle.jl_print.specs.Laws.{TextIsPaired}
use Rattle.jl_print.specs.WellFormed.{is_identifier_name, are_parts}
use Rattle.jl_print.specs.CanonicalTokens.{tokens_of}
use Rattle.jl_print.proofs.Clean.{good}
use Rattle.jl_print.proofs.Lexed.{IsClean, CleanFrom}
use Rattle.jl_print.proofs.LexedStrings.{hidden_low, lone_low}

-- whatever units follow these, no surrogate of these is without its partner
record Paired (us : List ℕ) : Type 0 where
  before : (v : List ℕ) → has_unpaired_surrogate (us ++ v) ≡ has_unpaired_surrogate v

none : Paired []
none = record { before = λ v. refl }

infix_node : {a b : List ℕ} → Paired a → Paired b → Paired (a ++ b)
infix_node {a} {b} p q =
    record { before = λ v. ap has_unpaired_surrogate (append_assoc a b v) ∙ p.before (b ++ v) ∙ q.before v }

-- u is no surrogate
abbrev Whole : ℕ → Type 0
Whole u = (u < 0xD800) ⊎ (0xE000 ≤ u)

whole : {u : ℕ} {us : List ℕ} → Whole u → Paired us → Paired (u ∷ us)
whole {u} {us} (inl low) p = record {
  before = λ v.
      ap (list_any (λ o. not (is_some o))) (utf16_chars_lone u (us ++ v) (λ pair. omega (arith, pair.0))
      ∙ ap (λ o. o ∷ utf16_chars (us ++ v)) (lone_unit_char_low u low)) ∙ p.before v;
}
whole {u} {us} (inr high) p = record {
  before = λ v.
      ap (list_any (λ o. not (is_some o))) (utf16_chars_lone u (us ++ v) (λ pair. omega (arith, pair.1))
      ∙ ap (λ o. o ∷ utf16_chars (us ++ v)) (lone_unit_char_high u high)) ∙ p.before v;
}

pair : {u v : ℕ} {us : List ℕ} → IsPair u v → Paired us → Paired (u ∷ v ∷ us)
pair {u} {v} {us} is p = record {
  before = λ w.
      ap (list_any (λ o. not (is_some o))) (utf16_chars_pair u v (us ++ w) is) ∙ p.before w;
}

-- units of ASCII
abbrev is_ascii : ℕ → Bool
is_ascii u = nat_lt u 128

ascii : (us : List ℕ) → list_all is_ascii us ≡ true → Paired us
ascii [] h = none
ascii (u ∷ us) h =
    let b = and_true (is_ascii u) (list_all is_ascii us) h in
    let low : u < 128 = ltb-true u 128 b.0 in
    whole (inl (omega (arith, low))) (ascii us b.1)

choice : (b : Bool) (x y : List ℕ) → Paired x → Paired y → Paired (if b then x else y)
choice true x y p q = p
choice false x y p q = q

-- a part of a name is no surrogate, since these have a category of their own
no_part : (u : ℕ) → 0xD800 ≤ u → u < 0xE000 → is_identifier_part u ≡ false
unfolding is_identifier_part is_identifier_start is_surrogate category is_letter is_mark
no_part u from below =
    let low : nat_le 55296 u ≡ true = le-leb 55296 u from in
    let high : nat_le u 57343 ≡ true = le-leb u 57343 (omega arith) in
    let differs : (k : ℕ) → (u ≡ k → ⊥) → (u == k) ≡ false = λ k f. other_unit u k f in
    rw (
      low,
      high,
      differs 36 (λ e. omega arith),
      differs 95 (λ e. omega arith),
      differs 8204 (λ e. omega arith),
      differs 8205 (λ e. omega arith),
    ) refl

part_whole : (u : ℕ) → is_identifier_part u ≡ true → Whole u
part_whole u h = elim (cases_lt u 0xD800) [
  | inl low ↦ inl low
  | inr from ↦ elim (cases_lt u 0xE000) [
    | inl below ↦ absurd (never_both _ h (no_part u from below))
    | inr high ↦ inr high
  ]
]

start_part : (u : ℕ) → is_identifier_start u ≡ true → is_identifier_part u ≡ true
unfolding is_identifier_part
start_part u h = rw h refl

parts_paired : (t : List ℕ) → are_parts t ≡ true → Paired t
parts_paired [] h = none
parts_paired (u ∷ us) h =
    let b = and_true (is_identifier_part u) (are_parts us) h in
    whole (part_whole u b.0) (parts_paired us b.1)

name_paired : (t : List ℕ) → is_identifier_name t ≡ true → Paired t
name_paired [] h = none
name_paired (u ∷ us) h =
    let b = and_true (is_identifier_start u) (are_parts us) h in
    whole (part_whole u (start_part u b.0)) (parts_paired us b.1)

-- digits
digit_paired : (d : ℕ) → d < 10 → Paired (digit_code d ∷ [])
digit_paired d h =
    let e : nat_lt d 10 ≡ true = grind (arith, nat_tests) in
    let is : digit_code d ≡ 48 + d = rw e refl in
    whole (inl (omega (arith, is))) none

digits_more : (p n : ℕ) (b : Bool) → nat_lt n 10 ≡ b → Paired (digits_within 10 p (n / 10))
    → Paired (elim b [ true ↦ digit_code n ∷ [] | false ↦ digits_within 10 p (n / 10) ++ digit_code (n % 10) ∷ [] ])
digits_more p n true e front = digit_paired n (ltb-true n 10 e)
digits_more p n false e front = infix_node front (digit_paired (n % 10) (omega arith))

digits_paired : (p n : ℕ) → Paired (digits_within 10 p n)
digits_paired zero n = none
digits_paired (suc p) n = digits_more p n (nat_lt n 10) refl (digits_paired p (n / 10))

punct_ascii : (p : Punct) → list_all is_ascii (punctuator_units p) ≡ true
punct_ascii puncts.LeftBrace = refl
punct_ascii _ = refl

-- digits of an escape
hex_digit : (d : ℕ) (us : List ℕ) → d < 16 → Paired us → Paired (digit_char d ∷ us)
hex_digit d us h p = elim (cases_lt d 10) [
  | inl l ↦ (let e : nat_lt d 10 ≡ true = grind (arith, nat_tests) in
      let is : digit_char d ≡ 48 + d = rw e refl in whole (inl (omega (arith, is))) p)
  | inr l ↦ (let e : nat_lt d 10 ≡ false = grind (arith, nat_tests) in
      let is : digit_char d ≡ 87 + d = rw e (omega arith) in whole (inl (omega (arith, is))) p)
]

escape_paired : (u : ℕ) → u < 65536 → Paired (unicode_escape u)
escape_paired u h =
    whole (inl (omega arith)) (whole (inl (omega arith))
    (hex_digit (u / 0x1000) _ (omega arith) (hex_digit (u / 0x100 % 0x10) _ (omega arith)
    (hex_digit (u / 0x10 % 0x10) _ (omega arith) (hex_digit (u % 0x10) [] (omega arith) none)))))

-- a surrogate with a partner stands for itself
paired_unit : (before u after : ℕ) → 0xD800 ≤ u → u < 0xE000 → is_lone before u after ≡ false
    → quoted_unit before u after ≡ u ∷ []
paired_unit before u after from below h =
    let differs : (k : ℕ) → k < 0xD800 → (u == k) ≡ false = λ k l. other_unit u k (λ e. omega arith) in
    let seen : is_hidden u ≡ false = false_unless (is_hidden u) (λ e. let l = hidden_low u e in omega arith) in
    rw (
      differs 0x22 (omega arith),
      differs 0x5C (omega arith),
      differs 0x0A (omega arith),
      differs 0x0D (omega arith),
      differs 0x09 (omega arith),
      differs 0x08 (omega arith),
      differs 0x0C (omega arith),
      seen,
      h,
    ) refl

-- any other unit is written without a surrogate
record Apart (before u after : ℕ) : Type 0 where
  first : (is_high_surrogate u && is_low_surrogate after) ≡ false
  second : is_high_surrogate before ≡ true → is_low_surrogate u ≡ false

high_bounds : (u : ℕ) → is_high_surrogate u ≡ true → (0xD800 ≤ u) × (u < 0xDC00)
high_bounds u h = let b = and_true (nat_le 0xD800 u) (nat_lt u 0xDC00) h in
    (leb-true 0xD800 u b.0, ltb-true u 0xDC00 b.1)

low_bounds : (u : ℕ) → is_low_surrogate u ≡ true → (0xDC00 ≤ u) × (u < 0xE000)
low_bounds u h = let b = and_true (nat_le 0xDC00 u) (nat_lt u 0xE000) h in
    (leb-true 0xDC00 u b.0, ltb-true u 0xE000 b.1)

no_pair : (a b : Bool) → a ≡ true → (a && b) ≡ false → b ≡ false
no_pair true b e f = f
no_pair false b e f = absurd cc

not_both : (a b : Bool) → a ≡ true → (b ≡ true → a ≡ false) → b ≡ false
not_both a true e f = absurd (never_both a e (f refl))
not_both a false e f = refl

-- a unit that is not escaped is no surrogate
lone_first : (before u after : ℕ) → Apart before u after → is_high_surrogate u ≡ true → is_lone before u after ≡ true
lone_first before u after p h = rw (h, no_pair (is_high_surrogate u) (is_low_surrogate after) h p.first) refl

lone_second : (before u after : ℕ) → Apart before u after → is_low_surrogate u ≡ true → is_lone before u after ≡ true
lone_second before u after p h =
    rw (h, not_both (is_low_surrogate u) (is_high_surrogate before) h p.second)
    (by (is_high_surrogate u && not (is_low_surrogate after)))
  where
    by : (b : Bool) → (b || true) ≡ true
    by true = refl
    by false = refl

whole_unit : (before u after : ℕ) → Apart before u after → is_lone before u after ≡ false → Whole u
whole_unit before u after p h = elim (cases_lt u 0xD800) [
  | inl low ↦ inl low
  | inr from ↦ elim (cases_lt u 0xE000) [
    | inr high ↦ inr high
    | inl below ↦ elim (cases_lt u 0xDC00) [
      | inl first ↦ absurd (never_both (is_lone before u after)
          (lone_first before u after p (rw (le-leb 0xD800 u from, lt-ltb u 0xDC00 first) refl)) h)
      | inr second ↦ absurd (never_both (is_lone before u after)
          (lone_second before u after p (rw (le-leb 0xDC00 u second, lt-ltb u 0xE000 below) refl)) h)
    ]
  ]
]

-- how a unit is written, where it has a letter of its own and where it hasn't
abbrev shown : Option ℕ → List ℕ → List ℕ
shown None other = other
shown (Some letter) other = 0x5C ∷ letter ∷ []

quoted_shown : (before u after : ℕ) → quoted_unit before u after
    ≡ shown (short_escape u) (if is_hidden u || is_lone before u after then unicode_escape u else u ∷ [])
quoted_shown before u after = refl

-- a letter of ASCII, if any
pub record IsLetter (o : Option ℕ) : Type 0 where
  pub small : (letter : ℕ) → o ≡ Some letter → letter < 128

pub no_letter : IsLetter None
no_letter = record { small = λ letter e. absurd (cc) }

pub letter_or : (b : Bool) {k : ℕ} {o : Option ℕ} → k < 128 → IsLetter o → IsLetter (if b then Some k else o)
letter_or true {k} l h = record { small = λ letter e. let same : k ≡ letter = cc in omega arith }
letter_or false l h = h

pub short_letter : (u : ℕ) → IsLetter (short_escape u)
short_letter u =
    letter_or (u == 0x22) (omega arith) (letter_or (u == 0x5C) (omega arith) (letter_or (u == 0x0A) (omega arith)
    (letter_or (u == 0x0D) (omega arith) (letter_or (u == 0x09) (omega arith) (letter_or (u == 0x08) (omega arith)
    (letter_or (u == 0x0C) (omega arith) no_letter))))))

shown_paired : (o : Option ℕ) (other : List ℕ) → IsLetter o → Paired other → Paired (shown o other)
shown_paired None other l p = p
shown_paired (Some letter) other l p =
    whole (inl (omega arith)) (whole (inl (let h = l.small letter refl in omega arith)) none)

unit_paired : (before u after : ℕ) → Apart before u after → Paired (quoted_unit before u after)
unit_paired before u after p =
    subst Paired (sym (quoted_shown before u after))
    (shown_paired (short_escape u) _ (short_letter u) (choose (is_hidden u) (is_lone before u after) refl refl))
  where
    choose : (x y : Bool) → is_hidden u ≡ x → is_lone before u after ≡ y
        → Paired (if x || y then unicode_escape u else u ∷ [])
    choose true y h k = escape_paired u (let l = hidden_low u h in omega arith)
    choose false true h k = escape_paired u (lone_low before u after k)
    choose false false h k = whole (whole_unit before u after p k) none

and_false : (a : Bool) → (a && false) ≡ false
and_false true = refl
and_false false = refl

-- the first of a pair and the second, each written as itself
pair_is : (before u v after : ℕ) → is_high_surrogate u ≡ true → is_low_surrogate v ≡ true
    → (quoted_unit before u v ≡ u ∷ []) × (quoted_unit u v after ≡ v ∷ [])
pair_is before u v after high low =
    let a = high_bounds u high in
    let b = low_bounds v low in
    let u_high : is_low_surrogate u ≡ false =
    false_unless (is_low_surrogate u) (λ e. let c = low_bounds u e in omega arith) in
    let v_low : is_high_surrogate v ≡ false =
    false_unless (is_high_surrogate v) (λ e. let c = high_bounds v e in omega arith) in
    let first : is_lone before u v ≡ false = rw (high, low, u_high) refl in
    let second : is_lone u v after ≡ false = rw (high, low, v_low) refl in
    (paired_unit before u v a.0 (omega (arith, a.1)) first, paired_unit u v after (omega (arith, b.0)) b.1 second)

quoted_paired : (before : ℕ) (us : List ℕ)
    → (is_high_surrogate before ≡ true → is_low_surrogate (slice_index us 0) ≡ false)
    → Paired (quoted_after before us)
quoted_paired before [] h = none
quoted_paired before (u ∷ []) h =
    infix_node (unit_paired before u 0 (record { first = and_false (is_high_surrogate u); second = h })) none
quoted_paired before (u ∷ v ∷ us) h = elim (true_or_false (is_high_surrogate u && is_low_surrogate v)) [
  | inl e ↦ (let both = and_true (is_high_surrogate u) (is_low_surrogate v) e in
      let parts = pair_is before u v (slice_index us 0) both.0 both.1 in
      let a = high_bounds u both.0 in
      let b = low_bounds v both.1 in
      rw (parts.0, parts.1) (pair (a.0, a.1, b.0, b.1)
      (quoted_paired v us (λ f. let c = high_bounds v f in absurd (omega arith)))))
  | inr e ↦ infix_node (unit_paired before u v (record { first = e; second = h }))
      (quoted_paired u (v ∷ us) (λ f. no_pair (is_high_surrogate u) (is_low_surrogate v) f e))
]

string_paired : (t : List ℕ) → Paired (quote t)
string_paired t = whole (inl (omega arith))
    (infix_node (quoted_paired 0 t (λ e. absurd (cc))) (whole (inl (omega arith)) none))

number_paired : (n : ℕ) → Paired (number_text (Some (pos n)) 10)
number_paired n = infix_node (choice _ (45 ∷ []) [] (whole (inl (omega arith)) none) none) (digits_paired (n + 1) n)

punct_paired : (p : Punct) → Paired (punctuator_units p)
punct_paired p = ascii (punctuator_units p) (punct_ascii p)

-- tokens, and what stands between them
spelled_paired : (k : TokenKind) → IsClean k → Paired (spelling_of k)
spelled_paired (kinds.Name t escaped) w = name_paired t w.1.letters
spelled_paired (kinds.Punct p) w = punct_paired p
spelled_paired (kinds.Number n) w = subst (λ m. Paired (number_text m 10)) (sym w.is) (number_paired w.value)
spelled_paired (kinds.Str t plain) w = string_paired t

between_paired : (k l : TokenKind) → Paired (between k l)
between_paired k l =
    choice (ends_line k) _ _ (ascii (10 ∷ []) refl)
    (choice (is_number k && is_dot l) _ _ (ascii (32 ∷ []) refl)
    (choice (joins_right k || joins_left l) _ _ none (ascii (32 ∷ []) refl)))

laid_paired : (after_dot : Bool) (ks : List TokenKind) → CleanFrom after_dot ks → Paired (layout_of ks)
laid_paired after_dot [] w = none
laid_paired after_dot (k ∷ []) w = infix_node (spelled_paired k w.0) (ascii (10 ∷ []) refl)
laid_paired after_dot (k ∷ l ∷ ks) w =
    infix_node (spelled_paired k w.0) (infix_node (between_paired k l) (laid_paired (is_dot k) (l ∷ ks) w.2))

pub text_is_paired : TextIsPaired
text_is_paired p w =
    let text = text_of p in
    let paired = laid_paired false (tokens_of p) (good p.body w.body).clean in
    ap has_unpaired_surrogate (sym (append-nil text)) ∙ paired.before []
    ∙ ap (list_any (λ o. not (is_some o))) utf16_chars-nil
