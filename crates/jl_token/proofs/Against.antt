-- Against each element that could be formed, the scanner finds a fault, a longer element or that one.
use Rattle.std.proofs.Common.{◌≡◌, refl, sym, ap, subst, ℕ, suc, ◌<◌, ◌≤◌, Bool, true, false, ◌&&◌, ◌||◌, ◌==◌, nat_le}
use Rattle.std.proofs.Common.{List, [], ◌∷◌, ◌++◌, length, Option, Some, None, pos, if◌then◌else◌, arith}
use Rattle.std.proofs.lemmas.Bool.{le-leb}
use Rattle.std.specs.List.{list_any}
use Rattle.jl_token.specs.Characters.{is_white_space, is_line_terminator, is_on_line, is_identifier_start}
use Rattle.jl_token.specs.Characters.{is_identifier_part, is_digit, is_quote, first_is}
use Rattle.jl_token.specs.Punctuators.{punctuator_units, all_punctuators}
use Rattle.jl_token.specs.Elements.{Element, LineEnd, LineComment, BlockComment, Word, Many, OneUnit, Letter, Name}
use Rattle.jl_token.specs.Elements.{name, BeforeClose, Numeral, HasValue, Character, StringLiteral, string, name_text}
use Rattle.jl_token.specs.Elements.{is_escaped, string_text, is_plain, Front, white_space, line_terminator}
use Rattle.jl_token.specs.Elements.{carriage_return_line_feed, line_comment, block_comment, identifier_name, punctuator}
use Rattle.jl_token.specs.Elements.{numeric_literal, string_literal}
use Rattle.jl_token.specs.inner.Scanner.{Outcome, found, bad, many, one_unit, letter, name_from, name_done, name_end}
use Rattle.jl_token.specs.inner.Scanner.{before_close, block_end, numeral, number_end, number_of, value_of, is_some_of}
use Rattle.jl_token.specs.inner.Scanner.{after_fraction, after_line_feed, string_done, string_stop, character}
use Rattle.jl_token.specs.inner.Scanner.{first_punctuator, punctuator_found, after_first, scan_word, scan}
use Rattle.jl_token.specs.declared.token.TokenKind.TheVariants as kinds
use Rattle.jl_token.specs.declared.token.BadKind.{BadKind}
use Rattle.jl_token.specs.declared.punct.Punct.{Punct}
use Rattle.jl_token.proofs.Rows.{Reads, prepend, many_step, many_complete, many_sound, many_whole}
use Rattle.jl_token.proofs.Tests.{or_false, and_true, never_both, is_unit}
use Rattle.jl_token.proofs.Units.{units}
use Rattle.jl_token.proofs.Parts.{reads_before_close, reads_start, reads_part}
use Rattle.jl_token.proofs.Strings.{reads_character}
use Rattle.jl_token.proofs.Numbers.{choose, row_shorter, longer, same, against, units_shorter, fraction_rest, goes_on}
use Rattle.jl_token.proofs.Numbers.{longer_numeral, same_numeral, numeral_against, numeral_begins, found_numeral}
use Rattle.jl_token.proofs.Values.{value_complete}
use Rattle.jl_token.proofs.Table.{longer as longer_punctuator, same as same_punctuator, longest, is_other, goes_well}
use Rattle.jl_token.proofs.Table.{each_goes_well}
use Rattle.jl_token.proofs.Branches.{scan_white, scan_line, scan_line_comment, scan_block_comment, scan_string}
use Rattle.jl_token.proofs.Branches.{scan_number, scan_letter}

pub data Covers : Outcome → Element → List ℕ → Type 0 where
  a_fault : {k : BadKind} {e : Element} {rest : List ℕ} → Covers (bad k) e rest
  a_longer : {d e : Element} {end rest : List ℕ} → length end < length rest → Covers (found d end) e rest
  the_same : {e : Element} {rest : List ℕ} → Covers (found e rest) e rest

-- line terminators
line_feed_covers : (us : List ℕ) → Covers (found LineEnd (after_line_feed us)) LineEnd us
unfolding after_line_feed
line_feed_covers [] = the_same
line_feed_covers (v ∷ us) =
    choose (λ x. Covers (found LineEnd x) LineEnd (v ∷ us)) (v == 10) us (v ∷ us) (λ h. a_longer (omega arith))
    (λ h. the_same)

line_covers : (u : ℕ) (us : List ℕ) → is_line_terminator u ≡ true → Covers (scan (u ∷ us)) LineEnd us
line_covers u us h = rw (scan_line u us h)
    (choose (λ x. Covers (found LineEnd x) LineEnd us) (u == 13) (after_line_feed us) us (λ e. line_feed_covers us)
    (λ e. the_same))

carriage_return : (us : List ℕ) → scan (13 ∷ 10 ∷ us) ≡ found LineEnd us
unfolding scan scan_word units after_line_feed
carriage_return us = refl

-- comments
pub close_stops : (us : List ℕ) → before_close (42 ∷ 47 ∷ us) ≡ None
unfolding before_close
close_stops us = refl

line_comment_covers : {us cs rest : List ℕ} → Many (OneUnit is_on_line) us cs rest
    → Covers (scan (47 ∷ 47 ∷ us)) LineComment rest
line_comment_covers {us} m =
    rw (scan_line_comment us) (elim (against is_on_line m) [ longer h l ↦ a_longer l | same e ↦ rw e the_same ])

block_covers : {us cs rest : List ℕ} → Many BeforeClose us cs (42 ∷ 47 ∷ rest)
    → Covers (scan (47 ∷ 42 ∷ us)) (BlockComment (list_any is_line_terminator cs)) rest
unfolding block_end
block_covers {us} {cs} {rest} m =
    rw (scan_block_comment us, many_whole BeforeClose before_close reads_before_close m (close_stops rest)) the_same

-- a row against what is found
module _ {A : Type 0} (One : List ℕ → A → List ℕ → Type 0) (one : List ℕ → Option (A × List ℕ))
    (r : Reads One one) where
  pub data RowAgainst (us : List ℕ) (xs : List A) (rest : List ℕ) : Type 0 where
    longer_row : length (many one us).1 < length rest → RowAgainst us xs rest
    same_row : many one us ≡ (xs, rest) → RowAgainst us xs rest

  prepend_rest : (xs : List A) (x : List A × List ℕ) → (prepend xs x).1 ≡ x.1
  unfolding prepend
  prepend_rest [] x = refl
  prepend_rest (d ∷ xs) x = prepend_rest xs x

  row_by : (us : List ℕ) (xs : List A) (rest : List ℕ) → Many One us xs rest → (o : Option (A × List ℕ)) → one rest ≡ o
      → RowAgainst us xs rest
  row_by us xs rest m None e = same_row (many_whole One one r m e)
  row_by us xs rest m (Some (a, mid)) e =
      longer_row (rw (many_complete One one r m, prepend_rest xs (many one rest), many_step One one r rest a mid e)
      (let i = row_shorter r.shorter (many_sound One one r mid).row in
      let j = r.shorter rest a mid (r.sound rest a mid e) in omega arith))

  pub row_against : {us rest : List ℕ} {xs : List A} → Many One us xs rest → RowAgainst us xs rest
  row_against {us} {rest} {xs} m = row_by us xs rest m (one rest) refl

-- names
name_end_covers : (xs : List (ℕ × Bool)) (end : List ℕ) (e : Element) (rest : List ℕ) → length end < length rest
    → Covers (name_end xs end) e rest
unfolding name_done
name_end_covers xs end e rest h =
    choose (λ o. Covers o e rest) (first_is (λ u. u == 92) end) _ _ (λ g. a_fault)
    (λ g. choose (λ o. Covers o e rest) (nat_le (length (name_text xs)) 1048576) _ _ (λ f. a_longer h) (λ f. a_fault))

name_end_same : (xs : List (ℕ × Bool)) (rest : List ℕ)
    → Covers (name_end xs rest) (Word (kinds.Name (name_text xs) (is_escaped xs))) rest
unfolding name_done
name_end_same xs rest = choose (λ o. Covers o (Word (kinds.Name (name_text xs) (is_escaped xs))) rest)
    (first_is (λ u. u == 92) rest) _ _ (λ g. a_fault)
    (λ g. choose (λ o. Covers o (Word (kinds.Name (name_text xs) (is_escaped xs))) rest)
    (nat_le (length (name_text xs)) 1048576) _ _ (λ f. the_same) (λ f. a_fault))

name_covers : {us rest : List ℕ} {xs : List (ℕ × Bool)} → Name us xs rest
    → Covers (scan us) (Word (kinds.Name (name_text xs) (is_escaped xs))) rest
unfolding name_from
name_covers {us} (name {mid} {rest} {x} {xs} s m) =
    rw (scan_letter s, reads_start.complete us x mid s)
    (elim (row_against (Letter is_identifier_part) (letter is_identifier_part) reads_part m) [
      | longer_row h ↦ name_end_covers (x ∷ (many (letter is_identifier_part) mid).0)
          (many (letter is_identifier_part) mid).1 _ rest h
      | same_row e ↦ rw e (name_end_same (x ∷ xs) rest)
    ])

-- numbers
number_longer : (x : ℕ × ℕ × ℕ × List ℕ) (e : Element) (rest : List ℕ) → length x.3 < length rest
    → Covers (number_end x) e rest
unfolding number_end
number_longer (m, r, l, end) e rest h =
    choose (λ o. Covers o e rest) (first_is is_digit end || is_some_of (letter is_identifier_start end)) _ _
    (λ g. a_fault) (λ g. by (value_of m r l)) where
      by : (o : Option ℕ) → Covers (number_of end o) e rest
      by None = unfold number_of in a_fault
      by (Some n) = unfold number_of in (a_longer h)

number_same : (m r l n : ℕ) (rest : List ℕ) → HasValue m r l n
    → Covers (number_end (m, r, l, rest)) (Word (kinds.Number (Some (pos n)))) rest
unfolding number_end number_of
number_same m r l n rest v =
    choose (λ o. Covers o (Word (kinds.Number (Some (pos n)))) rest)
    (first_is is_digit rest || is_some_of (letter is_identifier_start rest)) _ _ (λ g. a_fault)
    (λ g. rw (value_complete m r l n v) the_same)

number_covers : {us rest : List ℕ} {m r l n : ℕ} → Numeral us m r l rest → HasValue m r l n
    → Covers (scan us) (Word (kinds.Number (Some (pos n)))) rest
number_covers {us} {rest} {m} {r} {l} {n} d v = rw (scan_number us (numeral_begins d)) (elim (numeral_against d) [
  | longer_numeral h ↦ number_longer (found_numeral us) _ rest h
  | same_numeral e ↦ rw e (number_same m r l n rest v)
])

-- strings
pub mark_stops : (mark : ℕ) (us : List ℕ) → character mark (mark ∷ us) ≡ None
unfolding character
mark_stops mark us = rw (same_unit mark) refl where
  same_unit : (n : ℕ) → (n == n) ≡ true
  same_unit n = grind arith

string_covers : {us rest : List ℕ} {cs : List (List ℕ × Bool)} → StringLiteral us cs rest
    → length (string_text cs) ≤ 1048576 → Covers (scan us) (Word (kinds.Str (string_text cs) (is_plain cs))) rest
unfolding string_done string_stop
string_covers (string {mark} {us} {rest} {cs} q m) h =
    rw (
      scan_string mark us q,
      many_whole (Character mark) (character mark) (reads_character mark q) m
          (mark_stops mark rest),
      same_unit mark,
      le-leb (length (string_text cs)) 1048576 h,
    ) the_same where
      same_unit : (n : ℕ) → (n == n) ≡ true
      same_unit n = grind arith

-- punctuators
if_not : (b : Bool) → (if b then false else true) ≡ true → b ≡ false
if_not true h = absurd cc
if_not false h = refl

if_on : (a b : Bool) → (if a then (if b then false else true) else true) ≡ true → a ≡ true → b ≡ false
if_on true b h e = if_not b h
if_on false b h e = absurd cc

record Well (u : ℕ) (ws : List ℕ) : Type 0 where
  other : is_other u ≡ false
  slash : (u == 47) ≡ true → first_is (λ v. v == 47 || v == 42) ws ≡ false
  point : (u == 46) ≡ true → nat_le 1 (length ws) ≡ false

well : (u : ℕ) (ws : List ℕ) → goes_well (u ∷ ws) ≡ true → Well u ws
unfolding goes_well
well u ws h =
    let a = and_true ((if is_other u then false else true) &&
    (if u == 47 then (if first_is (λ v. v == 47 || v == 42) ws then false else true) else true))
    (if u == 46 then (if nat_le 1 (length ws) then false else true) else true) h in
    let b = and_true (if is_other u then false else true)
    (if u == 47 then (if first_is (λ v. v == 47 || v == 42) ws then false else true) else true) a.0 in
    record {
      other = if_not (is_other u) b.0;
      slash = if_on (u == 47) (first_is (λ v. v == 47 || v == 42) ws) b.1;
      point = if_on (u == 46) (nat_le 1 (length ws)) a.1;
    }

block_longer : (x : List ℕ × List ℕ) (e : Element) (rest : List ℕ) → length x.1 < length rest
    → Covers (block_end x) e rest
unfolding block_end
block_longer (cs, []) e rest h = a_fault
block_longer (cs, (u ∷ [])) e rest h = a_fault
block_longer (cs, (u ∷ v ∷ end)) e rest h = a_longer (omega arith)

punctuator_found_covers : (us : List ℕ) (p : Punct) (rest : List ℕ) → us ≡ punctuator_units p ++ rest
    → Covers (punctuator_found (first_punctuator all_punctuators us)) (Word (kinds.Punct p)) rest
unfolding punctuator_found
punctuator_found_covers us p rest e = elim (longest us p rest e) [
  | longer_punctuator a h ↦ rw a (a_longer h)
  | same_punctuator a ↦ rw a the_same
]

no_more_units : (ws : List ℕ) → nat_le 1 (length ws) ≡ false → ws ≡ []
no_more_units [] h = refl
no_more_units (w ∷ ws) h = let g = le-leb 1 (suc (length ws)) (omega arith) in
    absurd (never_both (nat_le 1 (suc (length ws))) g h)

-- a comment where a punctuator could be formed is longer
after_slash : (k : ℕ) (ws rest : List ℕ) → (k == 47 || k == 42) ≡ true → first_is (λ v. v == 47 || v == 42) ws ≡ false
    → first_is (λ v. v == k) (ws ++ rest) ≡ true → length (after_first (ws ++ rest)) < length rest
after_slash k [] [] q h g = absurd cc
after_slash k [] (v ∷ rest) q h g = omega arith
after_slash k (w ∷ ws) rest q h g =
    absurd (never_both (w == 47 || w == 42) (subst (λ x. (x == 47 || x == 42) ≡ true) (sym (is_unit w k g)) q) h)

close_shorter : (us : List ℕ) → length (many before_close us).1 ≤ length us
close_shorter us = row_shorter reads_before_close.shorter
    (many_sound BeforeClose before_close reads_before_close us).row

numeral_point : (us : List ℕ) → numeral 46 us ≡ after_fraction [] (many (one_unit is_digit) us)
unfolding numeral
numeral_point us = refl

module _ (u : ℕ) (ws rest : List ℕ) (p : Punct) (e : punctuator_units p ≡ u ∷ ws) (w : Well u ws) where
  others : (is_white_space u ≡ false) × (is_line_terminator u ≡ false) × (is_quote u ≡ false) × (is_digit u ≡ false)
      × (is_identifier_start u ≡ false) × ((u == 92) ≡ false)
  unfolding is_other
  others =
      let a = or_false (is_white_space u || is_line_terminator u || is_quote u || is_digit u || is_identifier_start u)
      (u == 92) w.other in
      let b = or_false (is_white_space u || is_line_terminator u || is_quote u || is_digit u) (is_identifier_start u)
      a.0 in
      let c = or_false (is_white_space u || is_line_terminator u || is_quote u) (is_digit u) b.0 in
      let d = or_false (is_white_space u || is_line_terminator u) (is_quote u) c.0 in
      let f = or_false (is_white_space u) (is_line_terminator u) d.0 in
      (f.0, f.1, d.1, c.1, b.1, a.1)

  point_number : (u == 46 && first_is is_digit (ws ++ rest)) ≡ true
      → Covers (number_end (numeral u (ws ++ rest))) (Word (kinds.Punct p)) rest
  point_number h =
      let a = and_true (u == 46) (first_is is_digit (ws ++ rest)) h in
      let n = no_more_units ws (w.point a.0) in
      let d = subst (λ x. first_is is_digit (x ++ rest) ≡ true) n a.1 in
      let f = fraction_rest [] (many (one_unit is_digit) rest) in
      let g = goes_on is_digit rest d in
      subst (λ x. Covers (number_end (numeral x (ws ++ rest))) (Word (kinds.Punct p)) rest) (sym (is_unit u 46 a.0))
      (subst (λ x. Covers (number_end (numeral 46 (x ++ rest))) (Word (kinds.Punct p)) rest) (sym n)
      (rw (numeral_point rest) (number_longer (after_fraction [] (many (one_unit is_digit) rest)) (Word (kinds.Punct p))
      rest (omega arith))))

  punctuator_covers_by : Covers (scan (u ∷ (ws ++ rest))) (Word (kinds.Punct p)) rest
  unfolding scan scan_word
  punctuator_covers_by = let o = others in rw (o.0, o.1)
      (choose (λ x. Covers x (Word (kinds.Punct p)) rest) (u == 47 && first_is (λ v. v == 47) (ws ++ rest)) _ _
      (λ h. let a = and_true (u == 47) (first_is (λ v. v == 47) (ws ++ rest)) h in
      let l = after_slash 47 ws rest refl (w.slash a.0) a.1 in
      let s = units_shorter is_on_line (after_first (ws ++ rest)) in a_longer (omega arith))
      (λ _. choose (λ x. Covers x (Word (kinds.Punct p)) rest) (u == 47 && first_is (λ v. v == 42) (ws ++ rest)) _ _
      (λ h. let a = and_true (u == 47) (first_is (λ v. v == 42) (ws ++ rest)) h in
      let l = after_slash 42 ws rest refl (w.slash a.0) a.1 in let s = close_shorter (after_first (ws ++ rest)) in
      block_longer _ _ rest (omega arith))
      (λ _. rw (o.2, o.3)
      (choose (λ x. Covers x (Word (kinds.Punct p)) rest) (u == 46 && first_is is_digit (ws ++ rest)) _ _
      (λ h. point_number h)
      (λ _. rw (o.4, o.5) (punctuator_found_covers (u ∷ (ws ++ rest)) p rest (ap (λ x. x ++ rest) (sym e))))))))

punctuator_by : (p : Punct) (rest ws : List ℕ) → punctuator_units p ≡ ws
    → Covers (scan (ws ++ rest)) (Word (kinds.Punct p)) rest
punctuator_by p rest [] e = let h = subst (λ x. goes_well x ≡ true) e (each_goes_well p) in
    absurd (nothing_well h) where
      nothing_well : goes_well [] ≡ true → ⊥
      nothing_well h = unfold goes_well in cc
punctuator_by p rest (u ∷ ws) e =
    punctuator_covers_by u ws rest p e (well u ws (subst (λ x. goes_well x ≡ true) e (each_goes_well p)))

-- each element
pub scan_covers : {us rest : List ℕ} {e : Element} → Front us e rest → Covers (scan us) e rest
scan_covers (white_space {u} {us} h) = rw (scan_white u us h) the_same
scan_covers (line_terminator {u} {us} h) = line_covers u us h
scan_covers (carriage_return_line_feed {us}) = rw (carriage_return us) the_same
scan_covers (line_comment m) = line_comment_covers m
scan_covers (block_comment m) = block_covers m
scan_covers (identifier_name n h) = name_covers n
scan_covers (punctuator {us} {rest} p e) = rw e (punctuator_by p rest (punctuator_units p) refl)
scan_covers (numeric_literal n v) = number_covers n v
scan_covers (string_literal s h) = string_covers s h
