-- Where a fault stands, the scanner finds it.
use Rattle.std.proofs.Common.{◌≡◌, refl, sym, ap, ◌∙◌, subst, ℕ, ◌<◌, inl, inr, Bool, true, false, ◌&&◌, ◌||◌, ◌==◌}
use Rattle.std.proofs.Common.{nat_le, List, [], ◌∷◌, length, Option, Some, None, arith}
use Rattle.std.proofs.lemmas.Bool.Decides.{nat_tests}
use Rattle.jl_text.proofs.SearchLemmas.{false_unless}
use Rattle.jl_token.specs.Characters.{is_identifier_start, is_identifier_part, is_digit, are_hex_digits, hex_number}
use Rattle.jl_token.specs.Characters.{hex_digit_value, is_quote, first_is}
use Rattle.jl_token.specs.Elements.{Element, Many, no_more, unit, digits as some, zero_digit, nonzero, no_exponent}
use Rattle.jl_token.specs.Elements.{whole, Letter, itself, escaped, Name, name, BeforeClose, HasValue, Character}
use Rattle.jl_token.specs.Elements.{string, name_text, string_text, Front, identifier_name, punctuator, numeric_literal}
use Rattle.jl_token.specs.Elements.{string_literal}
use Rattle.jl_token.specs.Faults.{Unclosed, at_end, at_last_backslash, at_line_terminator, No, LongestNumeral, Fault}
use Rattle.jl_token.specs.Faults.{unclosed_string, unclosed_comment, string_escape, name_escape, first_escape}
use Rattle.jl_token.specs.Faults.{digit_follows, name_follows, no_number, long_name, long_string, no_element}
use Rattle.jl_token.specs.inner.Scanner.{Outcome, bad, many, letter, name_from, name_done, name_end, before_close}
use Rattle.jl_token.specs.inner.Scanner.{block_end, number_end, number_of, value_of, is_some_of, string_done}
use Rattle.jl_token.specs.inner.Scanner.{string_end, string_stop, character, escape, scan}
use Rattle.jl_token.specs.declared.token.BadKind.{BadKind}
use Rattle.jl_token.specs.declared.token.BadKind.TheVariants as faults
use Rattle.jl_token.specs.declared.punct.Punct.TheVariants.{Dot, Slash}
use Rattle.jl_token.proofs.Rows.{Reads, nothing_at_end, many_sound, many_whole, Found}
use Rattle.jl_token.proofs.Tests.{or_cases, and_true, true_or_false, never_both, is_unit}
use Rattle.jl_token.proofs.Units.{units, lines, quotes, digit_bounds}
use Rattle.jl_token.proofs.Parts.{reads_before_close, reads_start, reads_part}
use Rattle.jl_token.proofs.Strings.{reads_character, at_backslash}
use Rattle.jl_token.proofs.Numbers.{choose, numeral_sound, numeral_against, longer_numeral, same_numeral}
use Rattle.jl_token.proofs.Numbers.{numeral_begins, begins_at, found_numeral}
use Rattle.jl_token.proofs.Values.{value_sound}
use Rattle.jl_token.proofs.Branches.{scan_block_comment, scan_string, scan_number, scan_letter, scan_backslash}
use Rattle.jl_token.proofs.Found.{Right, right_element, right_fault, close_here, positive, scan_right}
use Rattle.jl_token.proofs.Against.{mark_stops}

-- nothing is told of, so nothing is found
none_by : {A : Type 0} (One : List ℕ → A → List ℕ → Type 0) (one : List ℕ → Option (A × List ℕ)) (r : Reads One one)
    (us : List ℕ) → No One us → (o : Option (A × List ℕ)) → one us ≡ o → o ≡ None
none_by One one r us n None e = refl
none_by One one r us n (Some (a, rest)) e = absurd (n a rest (r.sound us a rest e))

none_found : {A : Type 0} (One : List ℕ → A → List ℕ → Type 0) (one : List ℕ → Option (A × List ℕ)) (r : Reads One one)
    (us : List ℕ) → No One us → one us ≡ None
none_found One one r us n = none_by One one r us n (one us) refl

same_unit : (n : ℕ) → (n == n) ≡ true
same_unit n = grind arith

too_long : (n : ℕ) → 1048576 < n → nat_le n 1048576 ≡ false
too_long n h = grind (arith, nat_tests)

-- comments
close_row : (us cs : List ℕ) (u v : ℕ) (rest : List ℕ)
    → Found BeforeClose before_close reads_before_close us (cs, u ∷ v ∷ rest) → Many BeforeClose us cs (42 ∷ 47 ∷ rest)
close_row us cs u v rest f = let c = close_here u v rest f.ends in
    subst (λ w. Many BeforeClose us cs (w ∷ 47 ∷ rest)) c.0
    (subst (λ w. Many BeforeClose us cs (u ∷ w ∷ rest)) c.1 f.row)

block_blamed : (us : List ℕ) (x : List ℕ × List ℕ) → many before_close us ≡ x
    → Found BeforeClose before_close reads_before_close us x
    → ((cs rest : List ℕ) → Many BeforeClose us cs (42 ∷ 47 ∷ rest) → ⊥) → block_end x ≡ bad faults.UnclosedComment
unfolding block_end
block_blamed us (cs, []) e f n = refl
block_blamed us (cs, (u ∷ [])) e f n = refl
block_blamed us (cs, (u ∷ v ∷ rest)) e f n = absurd (n cs rest (close_row us cs u v rest f))

-- strings
module _ (mark : ℕ) (q : is_quote mark ≡ true) where
  not_mark : (u : ℕ) → (u == mark) ≡ true → is_quote u ≡ true
  not_mark u h = subst (λ w. is_quote w ≡ true) (sym (is_unit u mark h)) q

  backslash_mark : (92 == mark) ≡ false
  backslash_mark = false_unless (92 == mark) (λ h. never_both (92 == 92) refl (quotes 92 (not_mark 92 h)).backslash)

  unclosed_stops : (rest : List ℕ) → Unclosed rest → character mark rest ≡ None
  unfolding character escape
  unclosed_stops rest at_end = nothing_at_end (Character mark) (character mark) (reads_character mark q)
  unclosed_stops rest at_last_backslash = at_backslash mark q []
  unclosed_stops rest (at_line_terminator {u} {us} h) = rw (h, either (u == mark)) refl where
    either : (b : Bool) → (b || true) ≡ true
    either true = refl
    either false = refl

  unclosed_end : (cs : List (List ℕ × Bool)) (rest : List ℕ) → Unclosed rest → string_end mark (cs, rest)
      ≡ bad faults.UnclosedText
  unfolding string_done string_stop units
  unclosed_end cs rest at_end = refl
  unclosed_end cs rest at_last_backslash = rw (backslash_mark) refl
  unclosed_end cs rest (at_line_terminator {u} {us} h) =
      rw (false_unless (u == mark) (λ g. never_both (is_quote u) (not_mark u g) (lines u h).quote), h) refl

  escape_end : (cs : List (List ℕ × Bool)) (u : ℕ) (rest : List ℕ) → string_end mark (cs, 92 ∷ u ∷ rest)
      ≡ bad faults.BadEscape
  unfolding string_done string_stop units
  escape_end cs u rest = rw (backslash_mark, positive (length rest)) refl

  long_end : (cs : List (List ℕ × Bool)) (rest : List ℕ) → 1048576 < length (string_text cs)
      → string_end mark (cs, mark ∷ rest) ≡ bad faults.LongText
  unfolding string_done string_stop
  long_end cs rest h = rw (same_unit mark, too_long (length (string_text cs)) h) refl

  string_blamed : (us : List ℕ) (cs : List (List ℕ × Bool)) (rest : List ℕ) (k : BadKind)
      → Many (Character mark) us cs rest → character mark rest ≡ None → string_end mark (cs, rest) ≡ bad k
      → scan (mark ∷ us) ≡ bad k
  string_blamed us cs rest k m n e =
      scan_string mark us q ∙ (ap (string_end mark)
      (many_whole (Character mark) (character mark) (reads_character mark q) m n) ∙ e)

-- names
name_blamed : {us rest : List ℕ} {xs : List (ℕ × Bool)} → Name us xs rest → No (Letter is_identifier_part) rest
    → scan us ≡ name_end xs rest
unfolding name_from
name_blamed {us} (name {mid} {rest} {x} {xs} s m) n =
    rw (
      scan_letter s,
      reads_start.complete us x mid s,
      many_whole (Letter is_identifier_part)
          (letter is_identifier_part) reads_part m (none_found (Letter is_identifier_part) (letter is_identifier_part)
          reads_part rest n),
    ) refl

backslash_end : (xs : List (ℕ × Bool)) (rest : List ℕ) → name_end xs (92 ∷ rest) ≡ bad faults.BadEscape
unfolding name_done
backslash_end xs rest = refl

long_name_end : (xs : List (ℕ × Bool)) (rest : List ℕ) → first_is (λ u. u == 92) rest ≡ false
    → 1048576 < length (name_text xs) → name_end xs rest ≡ bad faults.LongText
unfolding name_done
long_name_end xs rest h g = rw (h, too_long (length (name_text xs)) g) refl

no_name : (us : List ℕ) → No (Letter is_identifier_start) (92 ∷ us) → scan (92 ∷ us) ≡ bad faults.BadEscape
unfolding name_from
no_name us n = rw (
  scan_backslash us,
  none_found (Letter is_identifier_start) (letter is_identifier_start) reads_start
      (92 ∷ us) n,
) refl

-- numbers
number_same : {us rest : List ℕ} {m r l : ℕ} → LongestNumeral us m r l rest → found_numeral us ≡ (m, r, l, rest)
number_same {us} n = by us n (numeral_begins n.formed) where
  by : {rest : List ℕ} {m r l : ℕ} (us : List ℕ) → LongestNumeral us m r l rest → begins_at us ≡ true
      → found_numeral us ≡ (m, r, l, rest)
  by [] n h = absurd cc
  by (u ∷ us) n h = elim (numeral_against n.formed) [
    | longer_numeral g ↦ let i = n.longest _ _ _ _ (numeral_sound u us h) in absurd (omega arith)
    | same_numeral e ↦ e
  ]

number_blamed : {us rest : List ℕ} {m r l : ℕ} → LongestNumeral us m r l rest → scan us ≡ number_end (m, r, l, rest)
number_blamed {us} n = scan_number us (numeral_begins n.formed) ∙ ap number_end (number_same n)

digit_end : (m r l : ℕ) (rest : List ℕ) → first_is is_digit rest ≡ true → number_end (m, r, l, rest)
    ≡ bad faults.BadNumber
unfolding number_end
digit_end m r l rest h = rw h refl

letter_end : (m r l : ℕ) (rest : List ℕ) (x : ℕ × Bool) (after : List ℕ) → Letter is_identifier_start rest x after
    → number_end (m, r, l, rest) ≡ bad faults.BadNumber
unfolding number_end is_some_of
letter_end m r l rest x after s = rw (reads_start.complete rest x after s, either (first_is is_digit rest)) refl where
  either : (b : Bool) → (b || true) ≡ true
  either true = refl
  either false = refl

no_value : (m r l : ℕ) → ((n : ℕ) → HasValue m r l n → ⊥) → (o : Option ℕ) → value_of m r l ≡ o → o ≡ None
no_value m r l f None e = refl
no_value m r l f (Some n) e = absurd (f n (value_sound m r l n e))

value_end : (m r l : ℕ) (rest : List ℕ) → ((n : ℕ) → HasValue m r l n → ⊥) → number_end (m, r, l, rest)
    ≡ bad faults.BadNumber
unfolding number_end number_of
value_end m r l rest f =
    choose (λ o. o ≡ bad faults.BadNumber) (first_is is_digit rest || is_some_of (letter is_identifier_start rest)) _ _
    (λ h. refl) (λ h. rw (no_value m r l f (value_of m r l) refl) refl)

-- a unit with which no element begins is the fault that is found
abbrev pub NothingWith : ℕ → Type 0
NothingWith u = (others rest : List ℕ) (e : Element) → Front (u ∷ others) e rest → ⊥

small : is_identifier_start 97 ≡ true
unfolding units
small = refl

hex_a : are_hex_digits 48 48 54 49 ≡ true
unfolding units are_hex_digits
hex_a = refl

number_a : hex_number 48 48 54 49 ≡ 97
unfolding hex_number hex_digit_value
number_a = refl

no_string : (u : ℕ) → NothingWith u → is_quote u ≡ true → ⊥
no_string u f q = f (u ∷ []) [] _ (string_literal (string q no_more) (omega arith))

no_slash : NothingWith 47 → ⊥
no_slash f = f [] [] _ (punctuator Slash refl)

no_point : NothingWith 46 → ⊥
no_point f = f [] [] _ (punctuator Dot refl)

no_start : (u : ℕ) → NothingWith u → is_identifier_start u ≡ true → ⊥
no_start u f h = f [] [] _ (identifier_name (name (itself h) no_more) (omega arith))

no_backslash : NothingWith 92 → ⊥
no_backslash f = f (117 ∷ 48 ∷ 48 ∷ 54 ∷ 49 ∷ []) [] _
    (identifier_name (name (escaped hex_a (rw number_a small)) no_more) (omega arith))

no_letter : (u : ℕ) (vs us rest : List ℕ) (x : ℕ × Bool) → vs ≡ u ∷ us → NothingWith u
    → Letter is_identifier_start vs x rest → ⊥
no_letter u vs us rest x e f (itself {u = v} h) = let a : v ≡ u = cc in
    no_start u f (subst (λ w. is_identifier_start w ≡ true) a h)
no_letter u vs us rest x e f (escaped h g) = let a : 92 ≡ u = cc in no_backslash (subst NothingWith (sym a) f)

no_zero : NothingWith 48 → ⊥
no_zero f = f [] [] _ (numeric_literal {n = 0} (whole zero_digit no_exponent)
    (record { exact = refl; inside = omega arith }))

no_digit : (u : ℕ) → NothingWith u → is_digit u ≡ true → ⊥
no_digit u f d = elim (true_or_false (u == 48)) [
  | inl e ↦ no_zero (subst NothingWith (is_unit u 48 e) f)
  | inr z ↦ let b = digit_bounds u d in
      f [] [] _ (numeric_literal (whole (nonzero z (some (unit d) no_more)) no_exponent)
      (record { exact = refl; inside = omega arith }))
]

no_number_here : (u : ℕ) (vs us : List ℕ) → vs ≡ u ∷ us → NothingWith u → begins_at vs ≡ true → ⊥
no_number_here u vs us e f h =
    elim (or_cases (is_digit u) (u == 46 && first_is is_digit us) (subst (λ w. begins_at w ≡ true) e h)) [
      | inl d ↦ no_digit u f d
      | inr p ↦ no_point (subst NothingWith (is_unit u 46 (and_true (u == 46) (first_is is_digit us) p).0) f)
    ]

only_character : (u : ℕ) (vs us : List ℕ) (k : BadKind) → vs ≡ u ∷ us → NothingWith u → Fault vs k
    → k ≡ faults.BadCharacter
only_character u vs us k e f (unclosed_string {mark} q m n) = let a : mark ≡ u = cc in
    absurd (no_string u f (subst (λ w. is_quote w ≡ true) a q))
only_character u vs us k e f (unclosed_comment n) = let a : 47 ≡ u = cc in
    absurd (no_slash (subst NothingWith (sym a) f))
only_character u vs us k e f (string_escape {mark} q m n) = let a : mark ≡ u = cc in
    absurd (no_string u f (subst (λ w. is_quote w ≡ true) a q))
only_character u vs us k e f (name_escape (name {mid} {x} s m) n) = absurd (no_letter u vs us mid x e f s)
only_character u vs us k e f (first_escape n) = let a : 92 ≡ u = cc in
    absurd (no_backslash (subst NothingWith (sym a) f))
only_character u vs us k e f (digit_follows n h) = absurd (no_number_here u vs us e f (numeral_begins n.formed))
only_character u vs us k e f (name_follows n h) = absurd (no_number_here u vs us e f (numeral_begins n.formed))
only_character u vs us k e f (no_number n h) = absurd (no_number_here u vs us e f (numeral_begins n.formed))
only_character u vs us k e f (long_name (name {mid} {x} s m) n h g) = absurd (no_letter u vs us mid x e f s)
only_character u vs us k e f (long_string (string {mark} q m) h) = let a : mark ≡ u = cc in
    absurd (no_string u f (subst (λ w. is_quote w ≡ true) a q))
only_character u vs us k e f (no_element n) = refl

character_blamed : (u : ℕ) (us : List ℕ) (o : Outcome) → Right (u ∷ us) o → NothingWith u → o ≡ bad faults.BadCharacter
character_blamed u us o (right_element {e} {rest} g) f = absurd (f us rest e g)
character_blamed u us o (right_fault {k} g) f = ap bad (only_character u (u ∷ us) us k refl f g)

-- each fault
pub scan_blamed : {us : List ℕ} {k : BadKind} → Fault us k → scan us ≡ bad k
scan_blamed (unclosed_string {mark} {us} {rest} {cs} q m n) =
    string_blamed mark q us cs rest _ m (unclosed_stops mark q rest n) (unclosed_end mark q cs rest n)
scan_blamed (unclosed_comment {us} n) =
    scan_block_comment us ∙ block_blamed us (many before_close us) refl
    (many_sound BeforeClose before_close reads_before_close us) n
scan_blamed (string_escape {mark} {u} {us} {rest} {cs} q m n) =
    string_blamed mark q us cs (92 ∷ u ∷ rest) _ m
    (none_found (Character mark) (character mark) (reads_character mark q) (92 ∷ u ∷ rest) n)
    (escape_end mark q cs u rest)
scan_blamed (name_escape {rest} {xs} n h) = name_blamed n h ∙ backslash_end xs rest
scan_blamed (first_escape {us} n) = no_name us n
scan_blamed (digit_follows {rest} {m} {r} {l} n h) = number_blamed n ∙ digit_end m r l rest h
scan_blamed (name_follows {rest} {after} {m} {r} {l} {x} n h) = number_blamed n ∙ letter_end m r l rest x after h
scan_blamed (no_number {rest} {m} {r} {l} n h) = number_blamed n ∙ value_end m r l rest h
scan_blamed (long_name {rest} {xs} n h b g) = name_blamed n h ∙ long_name_end xs rest b g
scan_blamed (long_string (string {mark} {us} {rest} {cs} q m) h) =
    string_blamed mark q us cs (mark ∷ rest) _ m (mark_stops mark rest) (long_end mark q cs rest h)
scan_blamed (no_element {u} {us} f) = character_blamed u us (scan (u ∷ us)) (scan_right u us) f
