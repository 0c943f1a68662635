-- What the scanner finds stands there.
use Rattle.std.proofs.Common.{◌≡◌, refl, sym, ap, ◌∙◌, subst, ℕ, suc, ◌⊎◌, inl, inr, Bool, true, false, ◌&&◌, ◌||◌}
use Rattle.std.proofs.Common.{◌==◌, nat_le, List, [], ◌∷◌, ◌++◌, length, Option, Some, None, if◌then◌else◌, arith}
use Rattle.std.proofs.lemmas.Bool.{leb-true, le-leb}
use Rattle.std.proofs.lemmas.Bool.Decides.{nat_tests}
use Rattle.jl_token.specs.Characters.{is_white_space, is_line_terminator, is_on_line, is_identifier_start}
use Rattle.jl_token.specs.Characters.{is_identifier_part, is_digit, is_quote, first_is}
use Rattle.jl_token.specs.Punctuators.{punctuator_units, all_punctuators}
use Rattle.jl_token.specs.Elements.{Element, LineEnd, LineComment, Many, Letter, itself, escaped, Name, name}
use Rattle.jl_token.specs.Elements.{BeforeClose, Character, string, name_text, string_text, is_plain, Front}
use Rattle.jl_token.specs.Elements.{white_space, line_terminator, carriage_return_line_feed, line_comment}
use Rattle.jl_token.specs.Elements.{block_comment, identifier_name, punctuator, numeric_literal, string_literal}
use Rattle.jl_token.specs.Faults.{at_end, at_last_backslash, at_line_terminator, LongestNumeral, Fault, unclosed_string}
use Rattle.jl_token.specs.Faults.{unclosed_comment, string_escape, name_escape, first_escape, digit_follows}
use Rattle.jl_token.specs.Faults.{name_follows, no_number, long_name, long_string, no_element}
use Rattle.jl_token.specs.inner.Scanner.{Outcome, found, bad, many, one_unit, letter, name_from, name_done, name_end}
use Rattle.jl_token.specs.inner.Scanner.{before_close, block_end, numeral, number_end, number_of, value_of, is_some_of}
use Rattle.jl_token.specs.inner.Scanner.{after_line_feed, string_done, string_end, string_stop, character}
use Rattle.jl_token.specs.inner.Scanner.{first_punctuator, punctuator_found, after_first, scan_word, scan}
use Rattle.jl_token.specs.declared.token.BadKind.{BadKind}
use Rattle.jl_token.specs.declared.token.BadKind.TheVariants as faults
use Rattle.jl_token.specs.declared.punct.Punct.{Punct}
use Rattle.jl_token.specs.declared.punct.Punct.TheVariants.{Dot, Slash}
use Rattle.jl_token.proofs.Rows.{Reads, many_sound, many_whole, Found}
use Rattle.jl_token.proofs.Tests.{or_cases, or_false, and_true, true_or_false, never_both, is_unit}
use Rattle.jl_token.proofs.Units.{units}
use Rattle.jl_token.proofs.Parts.{reads_before_close, reads_start, reads_part}
use Rattle.jl_token.proofs.Strings.{reads_character}
use Rattle.jl_token.proofs.Numbers.{choose, units_row, numeral_sound, numeral_longest, numeral_begins, begins_at}
use Rattle.jl_token.proofs.Values.{value_sound, value_complete}
use Rattle.jl_token.proofs.Table.{first_sound, no_head, goes_well, each_goes_well}

pub data Right (us : List ℕ) : Outcome → Type 0 where
  right_element : {e : Element} {rest : List ℕ} → Front us e rest → Right us (found e rest)
  right_fault : {k : BadKind} → Fault us k → Right us (bad k)

-- nothing that a reader finds none of is told of
pub none_here : {A : Type 0} (One : List ℕ → A → List ℕ → Type 0) (one : List ℕ → Option (A × List ℕ))
    (r : Reads One one) (us : List ℕ) → one us ≡ None → (a : A) (rest : List ℕ) → One us a rest → ⊥
none_here One one r us e a rest o = let f = r.complete us a rest o in cc

-- line terminators
line_feed_right : (us : List ℕ) → Right (13 ∷ us) (found LineEnd (after_line_feed us))
unfolding after_line_feed units
line_feed_right [] = right_element (line_terminator refl)
line_feed_right (v ∷ us) = choose (λ x. Right (13 ∷ v ∷ us) (found LineEnd x)) (v == 10) us (v ∷ us)
    (λ h. subst (λ w. Right (13 ∷ w ∷ us) (found LineEnd us)) (sym (is_unit v 10 h))
    (right_element carriage_return_line_feed))
    (λ h. right_element (line_terminator refl))

line_right : (u : ℕ) (us : List ℕ) → is_line_terminator u ≡ true
    → Right (u ∷ us) (found LineEnd (if u == 13 then after_line_feed us else us))
line_right u us h = choose (λ x. Right (u ∷ us) (found LineEnd x)) (u == 13) (after_line_feed us) us
    (λ e. subst (λ w. Right (w ∷ us) (found LineEnd (after_line_feed us))) (sym (is_unit u 13 e)) (line_feed_right us))
    (λ e. right_element (line_terminator h))

-- comments
line_comment_right : (u : ℕ) (us : List ℕ) → (u == 47 && first_is (λ v. v == 47) us) ≡ true
    → Right (u ∷ us) (found LineComment (many (one_unit is_on_line) (after_first us)).1)
line_comment_right u [] h = absurd (never_both (first_is (λ v. v == 47) []) (and_true (u == 47) false h).1 refl)
line_comment_right u (v ∷ us) h = let a = and_true (u == 47) (v == 47) h in
    subst (λ x. Right (x ∷ v ∷ us) (found LineComment (many (one_unit is_on_line) us).1)) (sym (is_unit u 47 a.0))
    (subst (λ x. Right (47 ∷ x ∷ us) (found LineComment (many (one_unit is_on_line) us).1)) (sym (is_unit v 47 a.1))
    (right_element (line_comment (units_row is_on_line us))))

pub close_here : (u v : ℕ) (rest : List ℕ) → before_close (u ∷ v ∷ rest) ≡ None → (u ≡ 42) × (v ≡ 47)
unfolding before_close
close_here u v rest e = by (true_or_false (u == 42 && v == 47)) where
  by : ((u == 42 && v == 47) ≡ true) ⊎ ((u == 42 && v == 47) ≡ false) → (u ≡ 42) × (v ≡ 47)
  by (inl h) = let a = and_true (u == 42) (v == 47) h in (is_unit u 42 a.0, is_unit v 47 a.1)
  by (inr h) = absurd (clash (rw h at e)) where
    clash : {x : ℕ × List ℕ} → Some x ≡ None → ⊥
    clash e = cc

no_close : (us cs rest : List ℕ) → (c r : List ℕ) → many before_close us ≡ (cs, rest)
    → Many BeforeClose us c (42 ∷ 47 ∷ r) → rest ≡ 42 ∷ 47 ∷ r
unfolding before_close
no_close us cs rest c r e m = let w = many_whole BeforeClose before_close reads_before_close m refl in
    ap (λ (x : List ℕ × List ℕ). x.1) (sym e ∙ w)

block_right : (us : List ℕ) (x : List ℕ × List ℕ) → many before_close us ≡ x
    → Found BeforeClose before_close reads_before_close us x → Right (47 ∷ 42 ∷ us) (block_end x)
unfolding block_end
block_right us (cs, []) e f = right_fault (unclosed_comment (λ c r m. let w = no_close us cs [] c r e m in cc))
block_right us (cs, (u ∷ [])) e f =
    right_fault (unclosed_comment (λ c r m. let w = no_close us cs (u ∷ []) c r e m in cc))
block_right us (cs, (u ∷ v ∷ rest)) e f = let c = close_here u v rest f.ends in
    right_element (block_comment
    (subst (λ w. Many BeforeClose us cs (w ∷ 47 ∷ rest)) c.0
    (subst (λ w. Many BeforeClose us cs (u ∷ w ∷ rest)) c.1 f.row)))

block_comment_right : (u : ℕ) (us : List ℕ) → (u == 47 && first_is (λ v. v == 42) us) ≡ true
    → Right (u ∷ us) (block_end (many before_close (after_first us)))
block_comment_right u [] h = absurd (never_both (first_is (λ v. v == 42) []) (and_true (u == 47) false h).1 refl)
block_comment_right u (v ∷ us) h = let a = and_true (u == 47) (v == 42) h in
    subst (λ x. Right (x ∷ v ∷ us) (block_end (many before_close us))) (sym (is_unit u 47 a.0))
    (subst (λ x. Right (47 ∷ x ∷ us) (block_end (many before_close us))) (sym (is_unit v 42 a.1))
    (block_right us (many before_close us) refl (many_sound BeforeClose before_close reads_before_close us)))

-- strings
pub positive : (n : ℕ) → nat_le 1 (suc n) ≡ true
positive n = le-leb 1 (suc n) (omega arith)

module _ (mark : ℕ) (q : is_quote mark ≡ true) where
  string_close_right : (us : List ℕ) (cs : List (List ℕ × Bool)) (rest : List ℕ)
      → Many (Character mark) us cs (mark ∷ rest)
      → Right (mark ∷ us) (string_stop mark (string_text cs) (is_plain cs) mark rest)
  unfolding string_stop
  string_close_right us cs rest m =
      rw (same mark) (choose (Right (mark ∷ us)) (nat_le (length (string_text cs)) 1048576) _ _
      (λ h. right_element (string_literal (string q m) (leb-true (length (string_text cs)) 1048576 h)))
      (λ h. right_fault (long_string (string q m) (grind (arith, nat_tests))))) where
        same : (n : ℕ) → (n == n) ≡ true
        same n = grind arith

  must_be_backslash : (u : ℕ) (us : List ℕ) → (u == mark) ≡ false → is_line_terminator u ≡ false
      → character mark (u ∷ us) ≡ None → u ≡ 92
  unfolding character
  must_be_backslash u us a b e = by (true_or_false (u == 92)) where
    by : ((u == 92) ≡ true) ⊎ ((u == 92) ≡ false) → u ≡ 92
    by (inl h) = is_unit u 92 h
    by (inr h) = absurd (clash (rw (a, b, h) at e)) where
      clash : {x : (List ℕ × Bool) × List ℕ} → Some x ≡ None → ⊥
      clash e = cc

  string_backslash_right : (us : List ℕ) (cs : List (List ℕ × Bool)) (rest : List ℕ)
      → Many (Character mark) us cs (92 ∷ rest) → character mark (92 ∷ rest) ≡ None
      → Right (mark ∷ us) (if nat_le 1 (length rest) then bad faults.BadEscape else bad faults.UnclosedText)
  string_backslash_right us cs [] m e = right_fault (unclosed_string q m at_last_backslash)
  string_backslash_right us cs (u ∷ rest) m e =
      rw (positive (length rest))
      (right_fault (string_escape q m (none_here (Character mark) (character mark) (reads_character mark q)
      (92 ∷ u ∷ rest) e)))

  string_stop_right : (us : List ℕ) (cs : List (List ℕ × Bool)) (u : ℕ) (rest : List ℕ)
      → Many (Character mark) us cs (u ∷ rest) → character mark (u ∷ rest) ≡ None
      → Right (mark ∷ us) (string_stop mark (string_text cs) (is_plain cs) u rest)
  string_stop_right us cs u rest m e = by (true_or_false (u == mark)) (true_or_false (is_line_terminator u)) where
    at_mark : (u == mark) ≡ true → Right (mark ∷ us) (string_stop mark (string_text cs) (is_plain cs) u rest)
    at_mark h = subst (λ w. Right (mark ∷ us) (string_stop mark (string_text cs) (is_plain cs) w rest))
        (sym (is_unit u mark h))
        (string_close_right us cs rest (subst (λ w. Many (Character mark) us cs (w ∷ rest)) (is_unit u mark h) m))

    at_line : (u == mark) ≡ false → is_line_terminator u ≡ true
        → Right (mark ∷ us) (string_stop mark (string_text cs) (is_plain cs) u rest)
    at_line h l = unfold string_stop in (rw (h, l) (right_fault (unclosed_string q m (at_line_terminator l))))

    at_other : (u == mark) ≡ false → is_line_terminator u ≡ false
        → Right (mark ∷ us) (string_stop mark (string_text cs) (is_plain cs) u rest)
    at_other h l = let b = must_be_backslash u rest h l e in
        unfold string_stop in (rw (h, l)
        (string_backslash_right us cs rest (subst (λ w. Many (Character mark) us cs (w ∷ rest)) b m)
        (subst (λ w. character mark (w ∷ rest) ≡ None) b e)))

    by : ((u == mark) ≡ true) ⊎ ((u == mark) ≡ false) → (is_line_terminator u ≡ true) ⊎ (is_line_terminator u ≡ false)
        → Right (mark ∷ us) (string_stop mark (string_text cs) (is_plain cs) u rest)
    by (inl h) l = at_mark h
    by (inr h) (inl l) = at_line h l
    by (inr h) (inr l) = at_other h l

  string_end_right : (us : List ℕ) (x : List (List ℕ × Bool) × List ℕ)
      → Found (Character mark) (character mark) (reads_character mark q) us x → Right (mark ∷ us) (string_end mark x)
  unfolding string_done
  string_end_right us (cs, []) f = right_fault (unclosed_string q f.row at_end)
  string_end_right us (cs, (u ∷ rest)) f = string_stop_right us cs u rest f.row f.ends

-- numbers
some_letter : (us : List ℕ) (o : Option ((ℕ × Bool) × List ℕ)) → letter is_identifier_start us ≡ o → is_some_of o ≡ true
    → (x : ℕ × Bool) × (after : List ℕ) × Letter is_identifier_start us x after
unfolding is_some_of
some_letter us None e h = absurd cc
some_letter us (Some (x, after)) e h = (x, after, reads_start.sound us x after e)

value_right : (us : List ℕ) (m r l : ℕ) (rest : List ℕ) → LongestNumeral us m r l rest → (o : Option ℕ)
    → value_of m r l ≡ o → Right us (number_of rest o)
unfolding number_of
value_right us m r l rest n None e = right_fault (no_number n (λ v h. let f = value_complete m r l v h in cc))
value_right us m r l rest n (Some v) e = right_element (numeric_literal n.formed (value_sound m r l v e))

number_right : (us : List ℕ) (x : ℕ × ℕ × ℕ × List ℕ) → LongestNumeral us x.0 x.1 x.2 x.3 → Right us (number_end x)
unfolding number_end
number_right us (m, r, l, rest) n =
    choose (Right us) (first_is is_digit rest || is_some_of (letter is_identifier_start rest)) _ _
    (λ h. by (or_cases (first_is is_digit rest) (is_some_of (letter is_identifier_start rest)) h))
    (λ h. value_right us m r l rest n (value_of m r l) refl) where
      by : (first_is is_digit rest ≡ true) ⊎ (is_some_of (letter is_identifier_start rest) ≡ true)
          → Right us (bad faults.BadNumber)
      by (inl d) = right_fault (digit_follows n d)
      by (inr s) = let a = some_letter rest (letter is_identifier_start rest) refl s in right_fault (name_follows n a.2)

-- names
name_end_right : (us : List ℕ) (xs : List (ℕ × Bool)) (rest : List ℕ) → Name us xs rest → letter is_identifier_part rest
    ≡ None → Right us (name_end xs rest)
unfolding name_done
name_end_right us xs rest n e = choose (Right us) (first_is (λ u. u == 92) rest) _ _ (λ h. at_backslash rest n e h)
    (λ h. choose (Right us) (nat_le (length (name_text xs)) 1048576) _ _
    (λ g. right_element (identifier_name n (leb-true (length (name_text xs)) 1048576 g)))
    (λ g. right_fault (long_name n (none_here (Letter is_identifier_part) (letter is_identifier_part) reads_part rest e)
    h (grind (arith, nat_tests))))) where
      at_backslash : (rest : List ℕ) → Name us xs rest → letter is_identifier_part rest ≡ None
          → first_is (λ u. u == 92) rest ≡ true → Right us (bad faults.BadEscape)
      at_backslash [] n e h = absurd (never_both (first_is (λ u. u == 92) []) h refl)
      at_backslash (u ∷ rest) n e h = let b = is_unit u 92 h in
          right_fault (name_escape (subst (λ w. Name us xs (w ∷ rest)) b n)
          (none_here (Letter is_identifier_part) (letter is_identifier_part) reads_part (92 ∷ rest)
          (subst (λ w. letter is_identifier_part (w ∷ rest) ≡ None) b e)))

name_right : (u : ℕ) (us : List ℕ) → (is_identifier_start u || u == 92) ≡ true → (o : Option ((ℕ × Bool) × List ℕ))
    → letter is_identifier_start (u ∷ us) ≡ o → Right (u ∷ us) (name_from o)
unfolding name_from letter
name_right u us h None e = by (or_cases (is_identifier_start u) (u == 92) h) where
  by : (is_identifier_start u ≡ true) ⊎ ((u == 92) ≡ true) → Right (u ∷ us) (bad faults.BadEscape)
  by (inl s) = absurd (none_here (Letter is_identifier_start) (letter is_identifier_start) reads_start (u ∷ us) e
      (u, false) us (itself s))
  by (inr b) = subst (λ w. Right (w ∷ us) (bad faults.BadEscape)) (sym (is_unit u 92 b))
      (right_fault (first_escape (none_here (Letter is_identifier_start) (letter is_identifier_start) reads_start
      (92 ∷ us) (subst (λ w. letter is_identifier_start (w ∷ us) ≡ None) (is_unit u 92 b) e))))
name_right u us h (Some (x, mid)) e =
    let f = many_sound (Letter is_identifier_part) (letter is_identifier_part) reads_part mid in
    name_end_right (u ∷ us) (x ∷ (many (letter is_identifier_part) mid).0) (many (letter is_identifier_part) mid).1
    (name (reads_start.sound (u ∷ us) x mid e) f.row) f.ends

-- punctuators, and what is none
record Others (u : ℕ) (us : List ℕ) : Type 0 where
  white : is_white_space u ≡ false
  line : is_line_terminator u ≡ false
  quote : is_quote u ≡ false
  digit : is_digit u ≡ false
  start : (is_identifier_start u || u == 92) ≡ false
  none : first_punctuator all_punctuators (u ∷ us) ≡ None

thirteen : is_line_terminator 13 ≡ true
unfolding units
thirteen = refl

no_punctuator : (u : ℕ) (us : List ℕ) → Others u us → (others rest : List ℕ) (p : Punct)
    → u ∷ others ≡ punctuator_units p ++ rest → (ws : List ℕ) → punctuator_units p ≡ ws → ⊥
unfolding goes_well
no_punctuator u us o others rest p f [] e = let h = subst (λ w. goes_well w ≡ true) e (each_goes_well p) in cc
no_punctuator u us o others rest p f (w ∷ ws) e = let g = f ∙ ap (λ x. x ++ rest) e in let a : u ≡ w = cc in
    no_head u us o.none p ws (e ∙ ap (λ x. x ∷ ws) (sym a))

no_number_begins : (u : ℕ) (us : List ℕ) → Others u us → (others : List ℕ) → begins_at (u ∷ others) ≡ true → ⊥
no_number_begins u us o others h = elim (or_cases (is_digit u) (u == 46 && first_is is_digit others) h) [
  | inl d ↦ never_both (is_digit u) d o.digit
  | inr p ↦ no_head u us o.none Dot []
      (ap (λ w. w ∷ []) (sym (is_unit u 46 (and_true (u == 46) (first_is is_digit others) p).0)))
]

nothing_begins : (u : ℕ) (us : List ℕ) → Others u us → (vs others rest : List ℕ) (e : Element) → vs ≡ u ∷ others
    → Front vs e rest → ⊥
nothing_begins u us o vs others rest e q (white_space {u = v} h) = let a : v ≡ u = cc in
    never_both (is_white_space u) (subst (λ w. is_white_space w ≡ true) a h) o.white
nothing_begins u us o vs others rest e q (line_terminator {u = v} h) = let a : v ≡ u = cc in
    never_both (is_line_terminator u) (subst (λ w. is_line_terminator w ≡ true) a h) o.line
nothing_begins u us o vs others rest e q carriage_return_line_feed = let a : 13 ≡ u = cc in
    never_both (is_line_terminator u) (subst (λ w. is_line_terminator w ≡ true) a thirteen) o.line
nothing_begins u us o vs others rest e q (line_comment m) = let a : 47 ≡ u = cc in
    no_head u us o.none Slash [] (ap (λ w. w ∷ []) a)
nothing_begins u us o vs others rest e q (block_comment m) = let a : 47 ≡ u = cc in
    no_head u us o.none Slash [] (ap (λ w. w ∷ []) a)
nothing_begins u us o vs others rest e q (identifier_name (name (itself {u = v} h) m) l) = let a : v ≡ u = cc in
    never_both (is_identifier_start u) (subst (λ w. is_identifier_start w ≡ true) a h)
    (or_false (is_identifier_start u) (u == 92) o.start).0
nothing_begins u us o vs others rest e q (identifier_name (name (escaped h g) m) l) = let a : 92 ≡ u = cc in
    never_both (u == 92) (subst (λ w. (w == 92) ≡ true) a refl) (or_false (is_identifier_start u) (u == 92) o.start).1
nothing_begins u us o vs others rest e q (punctuator p f) =
    no_punctuator u us o others rest p (sym q ∙ f) (punctuator_units p) refl
nothing_begins u us o vs others rest e q (numeric_literal n v) =
    no_number_begins u us o others (subst (λ w. begins_at w ≡ true) q (numeral_begins n))
nothing_begins u us o vs others rest e q (string_literal (string {mark} h m) l) = let a : mark ≡ u = cc in
    never_both (is_quote u) (subst (λ w. is_quote w ≡ true) a h) o.quote

punctuator_right : (u : ℕ) (us : List ℕ) → (first_punctuator all_punctuators (u ∷ us) ≡ None → Others u us)
    → (o : Option (Punct × List ℕ)) → first_punctuator all_punctuators (u ∷ us) ≡ o
    → Right (u ∷ us) (punctuator_found o)
unfolding punctuator_found
punctuator_right u us f None e =
    right_fault (no_element (λ others rest x g. nothing_begins u us (f e) (u ∷ others) others rest x refl g))
punctuator_right u us f (Some (p, rest)) e =
    right_element (punctuator p (first_sound all_punctuators (u ∷ us) p rest e).is)

-- what the scanner finds
pub scan_right : (u : ℕ) (us : List ℕ) → Right (u ∷ us) (scan (u ∷ us))
unfolding scan scan_word
scan_right u us = choose (Right (u ∷ us)) (is_white_space u) _ _ (λ h. right_element (white_space h))
    (λ w. choose (Right (u ∷ us)) (is_line_terminator u) _ _ (λ h. line_right u us h)
    (λ l. choose (Right (u ∷ us)) (u == 47 && first_is (λ v. v == 47) us) _ _ (λ h. line_comment_right u us h)
    (λ c. choose (Right (u ∷ us)) (u == 47 && first_is (λ v. v == 42) us) _ _ (λ h. block_comment_right u us h)
    (λ b. choose (Right (u ∷ us)) (is_quote u) _ _
    (λ h. string_end_right u h us (many (character u) us)
    (many_sound (Character u) (character u) (reads_character u h) us))
    (λ q. choose (Right (u ∷ us)) (is_digit u || (u == 46 && first_is is_digit us)) _ _
    (λ h. number_right (u ∷ us) (numeral u us)
    (record { formed = numeral_sound u us h; longest = λ m r l rest n. numeral_longest n }))
    (λ d. choose (Right (u ∷ us)) (is_identifier_start u || u == 92) _ _
    (λ h. name_right u us h (letter is_identifier_start (u ∷ us)) refl)
    (λ s. punctuator_right u us
    (λ e. record {
      white = w;
      line = l;
      quote = q;
      digit = (or_false (is_digit u) (u == 46 && first_is is_digit us) d).0;
      start = s;
      none = e;
    })
    (first_punctuator all_punctuators (u ∷ us)) refl)))))))
