-- The steps of a string's functions, over plain lists.
use Rattle.std.proofs.Common.{◌≡◌, refl, sym, ap, ◌∙◌, ℕ, ◌+◌, ◌*◌, ◌<◌, ◌≤◌, Bool, true, false, ◌&&◌, ◌==◌, List, []}
use Rattle.std.proofs.Common.{◌∷◌, ◌++◌, drop, length, Option, Some, None, if◌then◌else◌, arith, append_assoc}
use Rattle.std.proofs.Common.{length-drop, zero-add, nat_le}
use Rattle.std.proofs.lemmas.List.{drop-drop, append-nil}
use Rattle.std.proofs.lemmas.Bool.Decides.{nat_tests}
use Rattle.jl_token.specs.Characters.{is_line_terminator, is_digit, is_hex_digit, hex_digit_value, are_hex_digits}
use Rattle.jl_token.specs.Characters.{hex_number, single_escape, is_quote, first_is}
use Rattle.jl_token.specs.Elements.{Word, string_text, is_plain}
use Rattle.jl_token.specs.inner.Scanner.{Outcome, found, bad, many, after_line_feed, hex_escape, unicode_escape}
use Rattle.jl_token.specs.inner.Scanner.{other_escape, escape_by, escape, character, string_stop, string_done}
use Rattle.jl_token.specs.inner.Scanner.{string_end}
use Rattle.jl_token.specs.declared.token.BadKind.TheVariants as faults
use Rattle.jl_token.specs.declared.token.TokenKind.TheVariants as kinds
use Rattle.jl_token.proofs.Rows.{many_step, many_stop}
use Rattle.jl_token.proofs.Strings.{reads_character}
use Rattle.jl_token.proofs.Tests.{other_unit}
use Rattle.jl_token.proofs.Units.{units}
use Rattle.jl_lex.specs.inner.Parts.{hex_first, two_of, four_of, two_at, four_at, CharacterFrom}
use Rattle.jl_lex.specs.declared.strings.Character.{Character}
use Rattle.jl_lex.proofs.Loops.{four_last, four_digits}

-- line terminators
pub feed_at : (us : List ℕ) (i u : ℕ) → u ≡ 13 → true ≡ first_is (λ v. v == 10) (drop i us)
    → drop (i + 1) us ≡ (if u == 13 then after_line_feed (drop i us) else drop i us)
feed_at us i u e h = rw e (sym (drop-drop 1 i us) ∙ by (drop i us) h) where
  by : (vs : List ℕ) → true ≡ first_is (λ v. v == 10) vs → drop 1 vs ≡ after_line_feed vs
  by [] h = absurd cc
  by (v ∷ vs) h = unfold after_line_feed in (rw (sym h) refl)

pub no_feed_at : (us : List ℕ) (u : ℕ) → u ≡ 13 → false ≡ first_is (λ v. v == 10) us
    → us ≡ (if u == 13 then after_line_feed us else us)
no_feed_at us u e h = rw e (by us h) where
  by : (vs : List ℕ) → false ≡ first_is (λ v. v == 10) vs → vs ≡ after_line_feed vs
  by [] h = unfold after_line_feed in refl
  by (v ∷ vs) h = unfold after_line_feed in (rw (sym h) refl)

pub no_return : (us : List ℕ) (u : ℕ) → (u ≡ 13 → ⊥) → us ≡ (if u == 13 then after_line_feed us else us)
no_return us u h = rw (other_unit u 13 h) refl

-- hexadecimal escapes
written_of : Option ℕ → List ℕ → Option ((List ℕ × Bool) × List ℕ)
written_of None rest = None
written_of (Some n) rest = Some ((n ∷ [], false), rest)

written_if : (b : Bool) (n : ℕ) (rest : List ℕ) → (if b then Some ((n ∷ [], false), rest) else None)
    ≡ written_of (if b then Some n else None) rest
unfolding written_of
written_if true n rest = refl
written_if false n rest = refl

two_cases : (p q : Bool) (a b : ℕ) → two_of (if p then Some a else None) (if q then Some b else None)
    ≡ (if p && q then Some (a * 16 + b) else None)
unfolding two_of
two_cases false q a b = refl
two_cases true false a b = refl
two_cases true true a b = refl

two_last : (x : Option ℕ) → two_of x None ≡ None
unfolding two_of
two_last None = refl
two_last (Some a) = refl

hex_by : (us : List ℕ) → hex_escape us ≡ written_of (two_of (hex_first us) (hex_first (drop 1 us))) (drop 2 us)
unfolding hex_escape hex_first written_of
hex_by [] = ap (λ (o : Option ℕ). written_of o []) (sym (two_last None))
hex_by (a ∷ []) = ap (λ (o : Option ℕ). written_of o [])
    (sym (two_last (if is_hex_digit a then Some (hex_digit_value a) else None)))
hex_by (a ∷ b ∷ us) = rw (zero-add, two_cases (is_hex_digit a) (is_hex_digit b) (hex_digit_value a) (hex_digit_value b))
    (written_if (is_hex_digit a && is_hex_digit b) (hex_digit_value a * 16 + hex_digit_value b) us)

hex_at : (units : List ℕ) (i : ℕ) → hex_escape (drop i units) ≡ written_of (two_at units i) (drop (i + 2) units)
unfolding two_at
hex_at units i = rw (sym (drop-drop 1 i units), sym (drop-drop 2 i units)) (hex_by (drop i units))

unicode_by : (us : List ℕ)
    → unicode_escape us ≡ written_of (four_of (hex_first us) (hex_first (drop 1 us)) (hex_first (drop 2 us))
    (hex_first (drop 3 us))) (drop 4 us)
unfolding unicode_escape written_of
unicode_by [] = short (hex_first []) (hex_first []) (hex_first []) [] where
  short : (x y z : Option ℕ) (rest : List ℕ) → None ≡ written_of (four_of x y z (hex_first [])) rest
  short x y z rest = unfold hex_first in (rw (four_last x y z) refl)
unicode_by (a ∷ []) = short (hex_first (a ∷ [])) (hex_first []) (hex_first []) [] where
  short : (x y z : Option ℕ) (rest : List ℕ) → None ≡ written_of (four_of x y z (hex_first [])) rest
  short x y z rest = unfold hex_first in (rw (four_last x y z) refl)
unicode_by (a ∷ b ∷ []) = short (hex_first (a ∷ b ∷ [])) (hex_first (b ∷ [])) (hex_first []) [] where
  short : (x y z : Option ℕ) (rest : List ℕ) → None ≡ written_of (four_of x y z (hex_first [])) rest
  short x y z rest = unfold hex_first in (rw (four_last x y z) refl)
unicode_by (a ∷ b ∷ c ∷ []) = short (hex_first (a ∷ b ∷ c ∷ [])) (hex_first (b ∷ c ∷ [])) (hex_first (c ∷ [])) [] where
  short : (x y z : Option ℕ) (rest : List ℕ) → None ≡ written_of (four_of x y z (hex_first [])) rest
  short x y z rest = unfold hex_first in (rw (four_last x y z) refl)
unicode_by (a ∷ b ∷ c ∷ d ∷ us) = written_if (are_hex_digits a b c d) (hex_number a b c d) us
    ∙ ap (λ (o : Option ℕ). written_of o us) (sym (four_digits a b c d (b ∷ c ∷ d ∷ us) (c ∷ d ∷ us) (d ∷ us) us))

unicode_at : (units : List ℕ) (i : ℕ) → unicode_escape (drop i units)
    ≡ written_of (four_at units i) (drop (i + 4) units)
unfolding four_at
unicode_at units i = rw (
  sym (drop-drop 1 i units),
  sym (drop-drop 2 i units),
  sym (drop-drop 3 i units),
  sym (drop-drop 4 i units),
) (unicode_by (drop i units))

-- other escapes
pub other_line : (u : ℕ) (us rest : List ℕ) → true ≡ is_line_terminator u
    → rest ≡ (if u == 13 then after_line_feed us else us) → other_escape u us ≡ Some (([], false), rest)
unfolding other_escape
other_line u us rest h e = rw (sym h, e) refl

pub other_hex_none : (u : ℕ) (units : List ℕ) (i : ℕ) → false ≡ is_line_terminator u → u ≡ 120 → two_at units i ≡ None
    → other_escape u (drop i units) ≡ None
unfolding other_escape written_of
other_hex_none u units i h e n = rw (sym h, e) (hex_at units i ∙ rw n refl)

pub other_hex : (u : ℕ) (units : List ℕ) (i n : ℕ) → false ≡ is_line_terminator u → u ≡ 120 → two_at units i ≡ Some n
    → other_escape u (drop i units) ≡ Some ((n ∷ [], false), drop (i + 2) units)
unfolding other_escape written_of
other_hex u units i n h e q = rw (sym h, e) (hex_at units i ∙ rw q refl)

pub other_unicode_none : (u : ℕ) (units : List ℕ) (i : ℕ) → false ≡ is_line_terminator u → u ≡ 117
    → four_at units i ≡ None → other_escape u (drop i units) ≡ None
unfolding other_escape written_of
other_unicode_none u units i h e n = rw (sym h, e) (unicode_at units i ∙ rw n refl)

pub other_unicode : (u : ℕ) (units : List ℕ) (i n : ℕ) → false ≡ is_line_terminator u → u ≡ 117
    → four_at units i ≡ Some n → other_escape u (drop i units) ≡ Some ((n ∷ [], false), drop (i + 4) units)
unfolding other_escape written_of
other_unicode u units i n h e q = rw (sym h, e) (unicode_at units i ∙ rw q refl)

pub other_itself : (u : ℕ) (us : List ℕ) → false ≡ is_line_terminator u → (u ≡ 120 → ⊥) → (u ≡ 117 → ⊥)
    → false ≡ is_digit u → other_escape u us ≡ Some ((u ∷ [], false), us)
unfolding other_escape
other_itself u us h a b d = rw (sym h, other_unit u 120 a, other_unit u 117 b, sym d) refl

pub other_digit : (u : ℕ) (us : List ℕ) → false ≡ is_line_terminator u → (u ≡ 120 → ⊥) → (u ≡ 117 → ⊥)
    → true ≡ is_digit u → (u ≡ 48 → ⊥) → other_escape u us ≡ None
unfolding other_escape
other_digit u us h a b d z = rw (sym h, other_unit u 120 a, other_unit u 117 b, sym d, other_unit u 48 z) refl

pub other_octal : (u : ℕ) (us : List ℕ) → u ≡ 48 → true ≡ first_is is_digit us → other_escape u us ≡ None
unfolding other_escape units
other_octal u us e d = rw (e, sym d) refl

pub other_null : (u : ℕ) (us : List ℕ) → u ≡ 48 → false ≡ first_is is_digit us
    → other_escape u us ≡ Some ((0 ∷ [], false), us)
unfolding other_escape units
other_null u us e d = rw (e, sym d) refl

-- escapes
pub escape_end : (us : List ℕ) → us ≡ [] → escape us ≡ None
unfolding escape
escape_end us e = rw e refl

pub escape_single : (us mid : List ℕ) (u v : ℕ) → us ≡ u ∷ mid → single_escape u ≡ Some v
    → escape us ≡ Some ((v ∷ [], false), mid)
unfolding escape escape_by
escape_single us mid u v e h = rw (e, h) refl

pub escape_other : (us mid : List ℕ) (u : ℕ) → us ≡ u ∷ mid → single_escape u ≡ None → escape us ≡ other_escape u mid
unfolding escape escape_by
escape_other us mid u e h = rw (e, h) refl

-- characters
pub character_end : (mark : ℕ) (us : List ℕ) → us ≡ [] → character mark us ≡ None
unfolding character
character_end mark us e = rw e refl

same_unit : (n : ℕ) → (n == n) ≡ true
same_unit n = grind arith

pub character_mark : (mark : ℕ) (us mid : List ℕ) (u : ℕ) → us ≡ u ∷ mid → u ≡ mark → character mark us ≡ None
unfolding character
character_mark mark us mid u e h = rw (e, h, same_unit mark) refl

pub character_line : (mark : ℕ) (us mid : List ℕ) (u : ℕ) → us ≡ u ∷ mid → (u ≡ mark → ⊥) → true ≡ is_line_terminator u
    → character mark us ≡ None
unfolding character
character_line mark us mid u e n h = rw (e, other_unit u mark n, sym h) refl

pub character_escape : (mark : ℕ) (us mid : List ℕ) (u : ℕ) → us ≡ u ∷ mid → (u ≡ mark → ⊥)
    → false ≡ is_line_terminator u → u ≡ 92 → character mark us ≡ escape mid
unfolding character
character_escape mark us mid u e n h b = rw (e, other_unit u mark n, sym h, b) refl

pub character_plain : (mark : ℕ) (us mid : List ℕ) (u : ℕ) → us ≡ u ∷ mid → (u ≡ mark → ⊥)
    → false ≡ is_line_terminator u → (u ≡ 92 → ⊥) → character mark us ≡ Some ((u ∷ [], true), mid)
unfolding character
character_plain mark us mid u e n h b = rw (e, other_unit u mark n, sym h, other_unit u 92 b) refl

-- what was read
pub escaped_from : (units : List ℕ) (low : ℕ) (r : Option Character) (o : Option ((List ℕ × Bool) × List ℕ)) (w end : ℕ)
    → r ≡ Some (record { unit = Some w; plain = false; end = end }) → o ≡ Some ((w ∷ [], false), drop end units)
    → low ≤ end → end ≤ length units → CharacterFrom units low r o
escaped_from units low r o w end e h a b = rw e (h, a, b)

pub character_from : (units : List ℕ) (low at : ℕ) (r : Option Character) (o p : Option ((List ℕ × Bool) × List ℕ))
    → o ≡ p → low ≤ at → CharacterFrom units at r p → CharacterFrom units low r o
character_from units low at None o p e l h = e ∙ h
character_from units low at (Some x) o p e l h = (e ∙ h.0, omega (arith, h.1), h.2)

-- what a string's characters come to
pub done_end : (mark : ℕ) (text : List ℕ) (plain : Bool) (us : List ℕ) → us ≡ [] → string_done mark text plain us
    ≡ bad faults.UnclosedText
unfolding string_done
done_end mark text plain us e = rw e refl

pub done_mark : (mark : ℕ) (text made : List ℕ) (plain : Bool) (us mid : List ℕ) (u : ℕ) → us ≡ u ∷ mid → u ≡ mark
    → made ≡ text → (1048577 ≤ length text → ⊥) → string_done mark text plain us
    ≡ found (Word (kinds.Str made plain)) mid
unfolding string_done string_stop
done_mark mark text made plain us mid u e h m n = rw (e, h, same_unit mark, fits (length text) n, m) refl where
  fits : (n : ℕ) → (1048577 ≤ n → ⊥) → nat_le n 1048576 ≡ true
  fits n h = grind (arith, nat_tests)

pub done_long : (mark : ℕ) (text : List ℕ) (plain : Bool) (us mid : List ℕ) (u : ℕ) → us ≡ u ∷ mid → u ≡ mark
    → 1048577 ≤ length text → string_done mark text plain us ≡ bad faults.LongText
unfolding string_done string_stop
done_long mark text plain us mid u e h n = rw (e, h, same_unit mark, over (length text) n) refl where
  over : (n : ℕ) → 1048577 ≤ n → nat_le n 1048576 ≡ false
  over n h = grind (arith, nat_tests)

pub done_line : (mark : ℕ) (text : List ℕ) (plain : Bool) (us mid : List ℕ) (u : ℕ) → us ≡ u ∷ mid → (u ≡ mark → ⊥)
    → true ≡ is_line_terminator u → string_done mark text plain us ≡ bad faults.UnclosedText
unfolding string_done string_stop
done_line mark text plain us mid u e n h = rw (e, other_unit u mark n, sym h) refl

pub done_escape : (mark : ℕ) (text : List ℕ) (plain : Bool) (units : List ℕ) (i u : ℕ)
    → drop i units ≡ u ∷ drop (i + 1) units → (u ≡ mark → ⊥) → false ≡ is_line_terminator u → i + 1 < length units
    → string_done mark text plain (drop i units) ≡ bad faults.BadEscape
unfolding string_done string_stop
done_escape mark text plain units i u e n h l =
    rw (
      e,
      other_unit u mark n,
      sym h,
      positive (length (drop (i + 1) units))
          (omega (arith, length-drop (i + 1) units)),
    ) refl where
      positive : (n : ℕ) → 0 < n → nat_le 1 n ≡ true
      positive n h = grind (arith, nat_tests)

pub done_last : (mark : ℕ) (text : List ℕ) (plain : Bool) (units : List ℕ) (i u : ℕ)
    → drop i units ≡ u ∷ drop (i + 1) units → (u ≡ mark → ⊥) → false ≡ is_line_terminator u → length units ≤ i + 1
    → string_done mark text plain (drop i units) ≡ bad faults.UnclosedText
unfolding string_done string_stop
done_last mark text plain units i u e n h l =
    rw (e, other_unit u mark n, sym h, none (length (drop (i + 1) units)) (omega (arith, length-drop (i + 1) units)))
    refl where
      none : (n : ℕ) → n ≤ 0 → nat_le 1 n ≡ false
      none n h = grind (arith, nat_tests)

-- a string so far, and how it goes on
pub record StringSoFar (mark : ℕ) (text : List ℕ) (plain : Bool) (us : List ℕ) (all : Outcome) : Type 0 where
  pub is : string_done mark (text ++ string_text (many (character mark) us).0)
      (plain && is_plain (many (character mark) us).0) (many (character mark) us).1 ≡ all

pub string_begins : (mark : ℕ) (us : List ℕ) → StringSoFar mark [] true us (string_end mark (many (character mark) us))
string_begins mark us = record { is = refl }

and_assoc : (a b c : Bool) → (a && (b && c)) ≡ ((a && b) && c)
and_assoc true b c = refl
and_assoc false b c = refl

and_none : (a : Bool) → (a && true) ≡ a
and_none true = refl
and_none false = refl

pub string_more : (mark : ℕ) → is_quote mark ≡ true → (text vs us mid : List ℕ) (plain p now : Bool) (all : Outcome)
    → character mark us ≡ Some ((vs, p), mid) → (plain && p) ≡ now → StringSoFar mark text plain us all
    → StringSoFar mark (text ++ vs) now mid all
string_more mark q text vs us mid plain p now all h e n =
    let m = many_step _ (character mark) (reads_character mark q) us (vs, p) mid h in
    let r = many (character mark) mid in
    record {
      is = rw (sym e, append_assoc)
          (rw (← and_assoc plain p (is_plain r.0))
          (ap (λ (x : List (List ℕ × Bool) × List ℕ). string_done mark (text ++ string_text x.0) (plain && is_plain x.0)
          x.1)
          (sym m) ∙ n.is));
    }

pub string_ends : (mark : ℕ) → is_quote mark ≡ true → (text us : List ℕ) (plain : Bool) (all : Outcome)
    → character mark us ≡ None → StringSoFar mark text plain us all → string_done mark text plain us ≡ all
string_ends mark q text us plain all h n =
    let m = many_stop _ (character mark) (reads_character mark q) us h in
    let e = ap (λ (x : List (List ℕ × Bool) × List ℕ). string_done mark (text ++ string_text x.0)
    (plain && is_plain x.0) x.1) (sym m) ∙ n.is in
    rw (append-nil, and_none) at e
