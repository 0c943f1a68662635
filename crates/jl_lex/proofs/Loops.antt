-- The steps of the loops, over plain lists.
use Rattle.std.proofs.Common.{◌≡◌, refl, sym, ap, ◌∙◌, subst, ℕ, ◌+◌, ◌<◌, ◌≤◌, Bool, true, false, ◌&&◌, ◌||◌, ◌==◌}
use Rattle.std.proofs.Common.{List, [], ◌∷◌, ◌++◌, drop, length, Option, Some, None, if◌then◌else◌, arith, append_assoc}
use Rattle.std.proofs.Common.{get_or, ◌-◌, ◌*◌, length-drop, zero-add, nat_le, Result, Ok, Err}
use Rattle.jl_lex.specs.inner.Answers.{IsFound, IsNamed}
use Rattle.jl_lex.specs.declared.element.Element.{Element as Read}
use Rattle.jl_lex.specs.declared.element.Stop.{Stop}
use Rattle.jl_lex.specs.declared.element.Stop.TheVariants as stops
use Rattle.std.proofs.lemmas.List.{drop-drop, drop_more, drop_all, append-nil}
use Rattle.std.specs.List.{list_any}
use Rattle.jl_token.specs.Characters.{is_line_terminator, is_on_line, is_identifier_start, is_identifier_part, first_is}
use Rattle.jl_token.specs.Elements.{BlockComment, Word, name_text, is_escaped}
use Rattle.jl_token.specs.inner.Scanner.{Outcome, found, bad, with_first, many, one_unit, before_close, block_end}
use Rattle.jl_token.specs.inner.Scanner.{strip, or_else, first_punctuator, name_escape, letter, name_done, name_from}
use Rattle.jl_token.specs.Characters.{is_hex_digit, hex_digit_value, are_hex_digits, hex_number}
use Rattle.jl_lex.specs.inner.Parts.{hex_first, four_of, four_at, LetterFrom}
use Rattle.jl_lex.specs.declared.names.Letter.{Letter}
use Rattle.jl_token.specs.Punctuators.{punctuator_units}
use Rattle.jl_token.specs.declared.punct.Punct.{Punct}
use Rattle.jl_token.specs.declared.token.BadKind.TheVariants as faults
use Rattle.jl_token.specs.declared.token.TokenKind.TheVariants as kinds
use Rattle.std.proofs.lemmas.Bool.Decides.{nat_tests}
use Rattle.jl_token.proofs.Rows.{many_step, many_stop}
use Rattle.jl_token.proofs.Tests.{other_unit}
use Rattle.jl_token.proofs.Parts.{reads_unit, reads_before_close, reads_part}

-- rows of units
pub unit_more : (p : ℕ → Bool) (us mid : List ℕ) (u : ℕ) → us ≡ u ∷ mid → p u ≡ true → many (one_unit p) us
    ≡ with_first u (many (one_unit p) mid)
unfolding one_unit
unit_more p us mid u e h = many_step _ (one_unit p) (reads_unit p) us u mid (rw (e, h) refl)

pub unit_stop : (p : ℕ → Bool) (us mid : List ℕ) (u : ℕ) → us ≡ u ∷ mid → p u ≡ false → many (one_unit p) us ≡ ([], us)
unfolding one_unit
unit_stop p us mid u e h = many_stop _ (one_unit p) (reads_unit p) us (rw (e, h) refl)

pub unit_end : (p : ℕ → Bool) (us : List ℕ) → us ≡ [] → many (one_unit p) us ≡ ([], us)
unfolding one_unit
unit_end p us e = many_stop _ (one_unit p) (reads_unit p) us (rw e refl)

-- comments
first_test : (u k : ℕ) (us mid : List ℕ) → us ≡ u ∷ mid → first_is (λ v. v == k) us ≡ (u == k)
first_test u k us mid e = rw e refl

pub line_more : (us mid : List ℕ) (u : ℕ) → us ≡ u ∷ mid → is_line_terminator u ≡ false
    → (many (one_unit is_on_line) us).1 ≡ (many (one_unit is_on_line) mid).1
unfolding is_on_line
line_more us mid u e h = ap (λ (x : List ℕ × List ℕ). x.1) (unit_more is_on_line us mid u e (rw h refl))

pub line_stop : (us mid : List ℕ) (u : ℕ) → us ≡ u ∷ mid → is_line_terminator u ≡ true
    → (many (one_unit is_on_line) us).1 ≡ us
unfolding is_on_line
line_stop us mid u e h = ap (λ (x : List ℕ × List ℕ). x.1) (unit_stop is_on_line us mid u e (rw h refl))

pub line_last : (us : List ℕ) → us ≡ [] → (many (one_unit is_on_line) us).1 ≡ us
line_last us e = ap (λ (x : List ℕ × List ℕ). x.1) (unit_end is_on_line us e)

pub close_more : (us mid : List ℕ) (u : ℕ) → us ≡ u ∷ mid → (u == 42 && first_is (λ v. v == 47) mid) ≡ false
    → many before_close us ≡ with_first u (many before_close mid)
unfolding before_close
close_more us mid u e h = many_step _ before_close reads_before_close us u mid (rw (e, h) refl)

pub close_stop : (us mid : List ℕ) (u : ℕ) → us ≡ u ∷ mid → (u == 42 && first_is (λ v. v == 47) mid) ≡ true
    → many before_close us ≡ ([], us)
unfolding before_close
close_stop us mid u e h = many_stop _ before_close reads_before_close us (rw (e, h) refl)

pub close_end : (us : List ℕ) → us ≡ [] → many before_close us ≡ ([], us)
unfolding before_close
close_end us e = many_stop _ before_close reads_before_close us (rw e refl)

-- so far a comment holds a line terminator or not, and goes on as the whole does
pub record Inside (lines : Bool) (us all : List ℕ) : Type 0 where
  pub rest : (many before_close us).1 ≡ (many before_close all).1
  pub holds : (lines || list_any is_line_terminator (many before_close us).0)
      ≡ list_any is_line_terminator (many before_close all).0

or_turned : (a b c : Bool) → ((a || b) || c) ≡ (b || (a || c))
or_turned true true c = refl
or_turned true false c = refl
or_turned false true c = refl
or_turned false false c = refl

or_none : (a : Bool) → (a || false) ≡ a
or_none true = refl
or_none false = refl

pub inside_begins : (us : List ℕ) → Inside false us us
inside_begins us = record { rest = refl; holds = refl }

pub inside_more : (lines : Bool) (units : List ℕ) (i : ℕ) (all : List ℕ) (u : ℕ) → drop i units ≡ u ∷ drop (i + 1) units
    → (first_is (λ v. v == 42) (drop i units) && first_is (λ v. v == 47) (drop (i + 1) units)) ≡ false
    → Inside lines (drop i units) all → Inside (is_line_terminator u || lines) (drop (i + 1) units) all
inside_more lines units i all u e h n =
    let m = close_more (drop i units) (drop (i + 1) units) u e
    (ap (λ b. b && first_is (λ v. v == 47) (drop (i + 1) units))
    (sym (first_test u 42 (drop i units) (drop (i + 1) units) e)) ∙ h) in
    record {
      rest = sym (ap (λ (x : List ℕ × List ℕ). x.1) m) ∙ n.rest;
      holds = or_turned (is_line_terminator u) lines _
          ∙ (ap (λ (x : List ℕ × List ℕ). lines || list_any is_line_terminator x.0) (sym m) ∙ n.holds);
    }

block_found : (y : List ℕ × List ℕ) (lines : Bool) (u v : ℕ) (rest : List ℕ) → y.1 ≡ u ∷ v ∷ rest
    → lines ≡ list_any is_line_terminator y.0 → block_end y ≡ found (BlockComment lines) rest
unfolding block_end
block_found (cs, all) lines u v rest e h = rw (e, sym h) refl

block_open : (y : List ℕ × List ℕ) → y.1 ≡ [] → block_end y ≡ bad faults.UnclosedComment
unfolding block_end
block_open (cs, all) e = rw e refl

second_true : (a b : Bool) → (a && b) ≡ true → b ≡ true
second_true true b h = h
second_true false b h = absurd cc

second : (mid : List ℕ) → first_is (λ v. v == 47) mid ≡ true → (v : ℕ) × (mid ≡ v ∷ drop 1 mid)
second [] h = absurd cc
second (v ∷ mid) h = (v, refl)

pub inside_closed : (lines : Bool) (units : List ℕ) (i : ℕ) (all : List ℕ) (u : ℕ)
    → drop i units ≡ u ∷ drop (i + 1) units
    → (first_is (λ v. v == 42) (drop i units) && first_is (λ v. v == 47) (drop (i + 1) units)) ≡ true
    → Inside lines (drop i units) all → block_end (many before_close all)
    ≡ found (BlockComment lines) (drop (i + 2) units)
inside_closed lines units i all u e h n =
    let s = second (drop (i + 1) units)
    (second_true (first_is (λ v. v == 42) (drop i units)) (first_is (λ v. v == 47) (drop (i + 1) units)) h) in
    let m = close_stop (drop i units) (drop (i + 1) units) u e
    (ap (λ b. b && first_is (λ v. v == 47) (drop (i + 1) units))
    (sym (first_test u 42 (drop i units) (drop (i + 1) units) e)) ∙ h) in
    let d : drop 1 (drop (i + 1) units) ≡ drop (i + 2) units =
    drop-drop 1 (i + 1) units ∙ (let q : i + 1 + 1 ≡ i + 2 = omega arith in ap (λ k. drop k units) q) in
    let r : (many before_close all).1 ≡ u ∷ s.0 ∷ drop (i + 2) units =
    sym n.rest ∙ (ap (λ (x : List ℕ × List ℕ). x.1) m ∙ (e ∙ ap (λ x. u ∷ x) (s.1 ∙ ap (λ x. s.0 ∷ x) d))) in
    block_found (many before_close all) lines u s.0 (drop (i + 2) units) r (sym (or_none lines)
    ∙ (ap (λ (x : List ℕ × List ℕ). lines || list_any is_line_terminator x.0) (sym m) ∙ n.holds))

pub inside_open : (lines : Bool) (us all : List ℕ) → us ≡ [] → Inside lines us all → block_end (many before_close all)
    ≡ bad faults.UnclosedComment
inside_open lines us all e n =
    block_open (many before_close all) (sym n.rest ∙ (ap (λ (x : List ℕ × List ℕ). x.1) (close_end us e) ∙ e))

-- punctuators
pub strip_none : (w : ℕ) (ws us : List ℕ) → first_is (λ v. v == w) us ≡ false → strip (w ∷ ws) us ≡ None
unfolding strip
strip_none w ws [] h = refl
strip_none w ws (u ∷ us) h = rw h refl

pub strip_more : (w : ℕ) (ws us : List ℕ) → first_is (λ v. v == w) us ≡ true → strip (w ∷ ws) us ≡ strip ws (drop 1 us)
unfolding strip
strip_more w ws [] h = absurd cc
strip_more w ws (u ∷ us) h = rw h refl

pub strip_all : (us : List ℕ) → strip [] us ≡ Some us
unfolding strip
strip_all us = refl

pub table_more : (p : Punct) (ps : List Punct) (us : List ℕ) → strip (punctuator_units p) us ≡ None
    → first_punctuator (p ∷ ps) us ≡ first_punctuator ps us
unfolding first_punctuator or_else
table_more p ps us e = rw e refl

pub table_found : (p : Punct) (ps : List Punct) (us rest : List ℕ) → strip (punctuator_units p) us ≡ Some rest
    → first_punctuator (p ∷ ps) us ≡ Some (p, rest)
unfolding first_punctuator or_else
table_found p ps us rest e = rw e refl

pub table_end : (us : List ℕ) → first_punctuator [] us ≡ None
unfolding first_punctuator
table_end us = refl

pub stands_not : (text units : List ℕ) (i end k : ℕ) → i < length text → k ≡ get_or text i 0
    → false ≡ first_is (λ v. v == k) (drop end units) → strip (drop i text) (drop end units) ≡ None
stands_not text units i end k h e f =
    rw (drop_more text i 0 h) (strip_none (get_or text i 0) (drop (i + 1) text) (drop end units)
    (subst (λ w. first_is (λ v. v == w) (drop end units) ≡ false) e (sym f)))

pub stands_more : (text units : List ℕ) (i end k : ℕ) → i < length text → k ≡ get_or text i 0
    → true ≡ first_is (λ v. v == k) (drop end units) → strip (drop (i + 1) text) (drop (end + 1) units)
    ≡ strip (drop i text) (drop end units)
stands_more text units i end k h e f =
    rw (drop_more text i 0 h)
    (sym (strip_more (get_or text i 0) (drop (i + 1) text) (drop end units)
    (subst (λ w. first_is (λ v. v == w) (drop end units) ≡ true) e (sym f))
    ∙ ap (strip (drop (i + 1) text)) (drop-drop 1 end units)))

pub first_within : (p : ℕ → Bool) (units : List ℕ) (end : ℕ) → true ≡ first_is p (drop end units)
    → end + 1 ≤ length units
first_within p units end f = by (drop end units) (length-drop end units) f where
  by : (us : List ℕ) → length us ≡ length units - end → true ≡ first_is p us → end + 1 ≤ length units
  by [] e f = absurd cc
  by (u ∷ us) e f = omega arith

pub stands_all : (text units : List ℕ) (i end : ℕ) → length text ≤ i → strip (drop i text) (drop end units)
    ≡ Some (drop end units)
stands_all text units i end h = rw (drop_all i text h) (strip_all (drop end units))

-- escapes
hex_cases : (p q r s : Bool) (a b c d : ℕ)
    → four_of (if p then Some a else None) (if q then Some b else None) (if r then Some c else None)
    (if s then Some d else None) ≡ (if p && q && r && s then Some (((a * 16 + b) * 16 + c) * 16 + d) else None)
unfolding four_of
hex_cases false q r s a b c d = refl
hex_cases true false r s a b c d = refl
hex_cases true true false s a b c d = refl
hex_cases true true true false a b c d = refl
hex_cases true true true true a b c d = refl

pub four_digits : (a b c d : ℕ) (r1 r2 r3 r4 : List ℕ)
    → four_of (hex_first (a ∷ r1)) (hex_first (b ∷ r2)) (hex_first (c ∷ r3)) (hex_first (d ∷ r4))
    ≡ (if are_hex_digits a b c d then Some (hex_number a b c d) else None)
unfolding hex_first are_hex_digits hex_number
four_digits a b c d r1 r2 r3 r4 =
    rw (zero-add) (hex_cases (is_hex_digit a) (is_hex_digit b) (is_hex_digit c) (is_hex_digit d) (hex_digit_value a)
    (hex_digit_value b) (hex_digit_value c) (hex_digit_value d))

-- four digits after one unit
four_after : List ℕ → Option ℕ
four_after us = four_of (hex_first (drop 1 us)) (hex_first (drop 2 us)) (hex_first (drop 3 us)) (hex_first (drop 4 us))

four_after_is : (units : List ℕ) (i : ℕ) → four_at units (i + 1) ≡ four_after (drop i units)
unfolding four_at four_after
four_after_is units i = rw (drop-drop 1 i units, drop-drop 2 i units, drop-drop 3 i units, drop-drop 4 i units)
    (let a : i + 1 + 1 ≡ i + 2 = omega arith in let b : i + 1 + 2 ≡ i + 3 = omega arith in
    let c : i + 1 + 3 ≡ i + 4 = omega arith in rw (a, b, c) refl)

escape_of : (ℕ → Bool) → Bool → Option ℕ → List ℕ → Option ((ℕ × Bool) × List ℕ)
escape_of p false o rest = None
escape_of p true None rest = None
escape_of p true (Some n) rest = if p n then Some ((n, true), rest) else None

escape_tests : (p : ℕ → Bool) (a b : Bool) (n : ℕ) (rest : List ℕ)
    → (if a && b && p n then Some ((n, true), rest) else None) ≡ escape_of p a (if b then Some n else None) rest
unfolding escape_of
escape_tests p false b n rest = refl
escape_tests p true false n rest = refl
escape_tests p true true n rest = refl

escape_none : (p : ℕ → Bool) (a : Bool) (rest : List ℕ) → None ≡ escape_of p a None rest
unfolding escape_of
escape_none p false rest = refl
escape_none p true rest = refl

pub four_last : (x y z : Option ℕ) → four_of x y z None ≡ None
unfolding four_of
four_last None y z = refl
four_last (Some a) None z = refl
four_last (Some a) (Some b) None = refl
four_last (Some a) (Some b) (Some c) = refl

escape_short : (p : ℕ → Bool) (a : Bool) (x y z : Option ℕ) (rest : List ℕ)
    → None ≡ escape_of p a (four_of x y z (hex_first [])) rest
unfolding hex_first
escape_short p a x y z rest = rw (four_last x y z) (escape_none p a rest)

escape_by : (p : ℕ → Bool) (us : List ℕ)
    → name_escape p us ≡ escape_of p (first_is (λ v. v == 117) us) (four_after us) (drop 5 us)
unfolding name_escape four_after
escape_by p [] = escape_short p false (hex_first []) (hex_first []) (hex_first []) []
escape_by p (v ∷ []) = escape_short p (v == 117) (hex_first []) (hex_first []) (hex_first []) []
escape_by p (v ∷ a ∷ []) = escape_short p (v == 117) (hex_first (a ∷ [])) (hex_first []) (hex_first []) []
escape_by p (v ∷ a ∷ b ∷ []) = escape_short p (v == 117) (hex_first (a ∷ b ∷ [])) (hex_first (b ∷ [])) (hex_first []) []
escape_by p (v ∷ a ∷ b ∷ c ∷ []) =
    escape_short p (v == 117) (hex_first (a ∷ b ∷ c ∷ [])) (hex_first (b ∷ c ∷ [])) (hex_first (c ∷ [])) []
escape_by p (v ∷ a ∷ b ∷ c ∷ d ∷ us) = escape_tests p (v == 117) (are_hex_digits a b c d) (hex_number a b c d) us
    ∙ ap (λ (o : Option ℕ). escape_of p (v == 117) o us)
    (sym (four_digits a b c d (b ∷ c ∷ d ∷ us) (c ∷ d ∷ us) (d ∷ us) us))

escape_at : (p : ℕ → Bool) (units : List ℕ) (i : ℕ) → name_escape p (drop i units)
    ≡ escape_of p (first_is (λ v. v == 117) (drop i units)) (four_at units (i + 1)) (drop (i + 5) units)
escape_at p units i = rw (four_after_is units i) (escape_by p (drop i units)
    ∙ ap (escape_of p (first_is (λ v. v == 117) (drop i units)) (four_after (drop i units))) (drop-drop 5 i units))

pub escape_not : (p : ℕ → Bool) (units : List ℕ) (i : ℕ) → first_is (λ v. v == 117) (drop i units) ≡ false
    → name_escape p (drop i units) ≡ None
unfolding escape_of
escape_not p units i h = escape_at p units i ∙ ap (λ b. escape_of p b (four_at units (i + 1)) (drop (i + 5) units)) h

pub escape_no_digits : (p : ℕ → Bool) (units : List ℕ) (i : ℕ) → four_at units (i + 1) ≡ None
    → name_escape p (drop i units) ≡ None
escape_no_digits p units i h =
    escape_at p units i ∙ (ap (λ (o : Option ℕ). escape_of p (first_is (λ v. v == 117) (drop i units)) o
    (drop (i + 5) units)) h ∙ sym (escape_none p (first_is (λ v. v == 117) (drop i units)) (drop (i + 5) units)))

escape_digits : (p : ℕ → Bool) (units : List ℕ) (i n : ℕ) → first_is (λ v. v == 117) (drop i units) ≡ true
    → four_at units (i + 1) ≡ Some n → name_escape p (drop i units)
    ≡ (if p n then Some ((n, true), drop (i + 5) units) else None)
unfolding escape_of
escape_digits p units i n h g =
    escape_at p units i ∙ (ap (λ b. escape_of p b (four_at units (i + 1)) (drop (i + 5) units)) h
    ∙ ap (λ (o : Option ℕ). escape_of p true o (drop (i + 5) units)) g)

pub escape_allowed : (p : ℕ → Bool) (units : List ℕ) (i n : ℕ) → first_is (λ v. v == 117) (drop i units) ≡ true
    → four_at units (i + 1) ≡ Some n → p n ≡ true → name_escape p (drop i units) ≡ Some ((n, true), drop (i + 5) units)
escape_allowed p units i n h g a = escape_digits p units i n h g ∙ rw a refl

pub escape_refused : (p : ℕ → Bool) (units : List ℕ) (i n : ℕ) → first_is (λ v. v == 117) (drop i units) ≡ true
    → four_at units (i + 1) ≡ Some n → p n ≡ false → name_escape p (drop i units) ≡ None
escape_refused p units i n h g a = escape_digits p units i n h g ∙ rw a refl

-- letters
pub letter_none : (p : ℕ → Bool) (us : List ℕ) → us ≡ [] → letter p us ≡ None
unfolding letter
letter_none p us e = rw e refl

pub letter_itself : (p : ℕ → Bool) (us mid : List ℕ) (u : ℕ) → us ≡ u ∷ mid → p u ≡ true
    → letter p us ≡ Some ((u, false), mid)
unfolding letter
letter_itself p us mid u e h = rw (e, h) refl

pub letter_other : (p : ℕ → Bool) (us mid : List ℕ) (u : ℕ) → us ≡ u ∷ mid → p u ≡ false → (u ≡ 92 → ⊥)
    → letter p us ≡ None
unfolding letter
letter_other p us mid u e h g = rw (e, h, other_unit u 92 g) refl

pub letter_escaped : (p : ℕ → Bool) (us mid : List ℕ) (u : ℕ) → us ≡ u ∷ mid → p u ≡ false → u ≡ 92
    → letter p us ≡ name_escape p mid
unfolding letter
letter_escaped p us mid u e h g = rw (e, h, g) refl

-- what a name's characters come to
pub name_bad : (text : List ℕ) (escaped : Bool) (rest : List ℕ) → true ≡ first_is (λ u. u == 92) rest
    → name_done text escaped rest ≡ bad faults.BadEscape
unfolding name_done
name_bad text escaped rest h = rw (sym h) refl

pub name_good : (text made : List ℕ) (escaped : Bool) (rest : List ℕ) → false ≡ first_is (λ u. u == 92) rest
    → made ≡ text → (1048577 ≤ length text → ⊥) → name_done text escaped rest
    ≡ found (Word (kinds.Name made escaped)) rest
unfolding name_done
name_good text made escaped rest h e n = rw (sym h, fits (length text) n, e) refl where
  fits : (n : ℕ) → (1048577 ≤ n → ⊥) → nat_le n 1048576 ≡ true
  fits n h = grind (arith, nat_tests)

pub name_long : (text : List ℕ) (escaped : Bool) (rest : List ℕ) → false ≡ first_is (λ u. u == 92) rest
    → 1048577 ≤ length text → name_done text escaped rest ≡ bad faults.LongText
unfolding name_done
name_long text escaped rest h g = rw (sym h, over (length text) g) refl where
  over : (n : ℕ) → 1048577 ≤ n → nat_le n 1048576 ≡ false
  over n h = grind (arith, nat_tests)

pub letter_from : (units : List ℕ) (i : ℕ) (r : Option Letter) (o p : Option ((ℕ × Bool) × List ℕ)) → o ≡ p
    → LetterFrom units (i + 1) r p → LetterFrom units i r o
letter_from units i None o p e h = e ∙ h
letter_from units i (Some x) o p e h = (e ∙ h.0, omega (arith, h.1), h.2)

-- a name so far, and how it goes on
pub record NameSoFar (text : List ℕ) (escaped : Bool) (us : List ℕ) (all : Outcome) : Type 0 where
  pub is : name_done (text ++ name_text (many (letter is_identifier_part) us).0)
      (escaped || is_escaped (many (letter is_identifier_part) us).0) (many (letter is_identifier_part) us).1 ≡ all

or_assoc : (a b c : Bool) → (a || (b || c)) ≡ ((a || b) || c)
or_assoc true b c = refl
or_assoc false b c = refl

pub name_begins : (us mid : List ℕ) (u : ℕ) (e : Bool) → letter is_identifier_start us ≡ Some ((u, e), mid)
    → NameSoFar (u ∷ []) e mid (name_from (letter is_identifier_start us))
unfolding name_from
name_begins us mid u e h = rw h (record { is = refl })

pub name_more : (text us mid : List ℕ) (escaped e now : Bool) (u : ℕ) (all : Outcome) → letter is_identifier_part us
    ≡ Some ((u, e), mid) → (escaped || e) ≡ now → NameSoFar text escaped us all → NameSoFar (text ++ u ∷ []) now mid all
name_more text us mid escaped e now u all h q n =
    let m = many_step _ (letter is_identifier_part) reads_part us (u, e) mid h in
    let r = many (letter is_identifier_part) mid in
    record {
      is = rw (sym q, append_assoc)
          (rw (← or_assoc escaped e (is_escaped r.0))
          (ap (λ (x : List (ℕ × Bool) × List ℕ). name_done (text ++ name_text x.0) (escaped || is_escaped x.0) x.1)
          (sym m)
          ∙ n.is));
    }

pub name_ends : (text us : List ℕ) (escaped : Bool) (all : Outcome) → letter is_identifier_part us ≡ None
    → NameSoFar text escaped us all → name_done text escaped us ≡ all
name_ends text us escaped all h n =
    let m = many_stop _ (letter is_identifier_part) reads_part us h in
    let e = ap (λ (x : List (ℕ × Bool) × List ℕ). name_done (text ++ name_text x.0) (escaped || is_escaped x.0) x.1)
    (sym m) ∙ n.is in
    rw (append-nil, or_none) at e

pub found_named : (units : List ℕ) (i end : ℕ) (r : Result (Read × ℕ) Stop) (o all : Outcome) → o ≡ all → i < end
    → end ≤ length units → IsNamed units end r o → IsFound units i r all
found_named units i end (Ok x) o all e a b h = (sym e ∙ h.0, omega (arith, h.1), omega (arith, h.1))
found_named units i end (Err (stops.Bad k)) o all e a b h = sym e ∙ h
found_named units i end (Err stops.NoMemory) o all e a b h = tt

pub name_none : (us : List ℕ) → letter is_identifier_start us ≡ None → name_from (letter is_identifier_start us)
    ≡ bad faults.BadEscape
unfolding name_from
name_none us e = rw e refl

pub found_later : (units : List ℕ) (i j : ℕ) (r : Result (Read × ℕ) Stop) (o all : Outcome) → o ≡ all → i ≤ j
    → IsFound units j r o → IsFound units i r all
found_later units i j (Ok x) o all e a h = (sym e ∙ h.0, omega (arith, h.1), h.2)
found_later units i j (Err (stops.Bad k)) o all e a h = sym e ∙ h
found_later units i j (Err stops.NoMemory) o all e a h = tt
