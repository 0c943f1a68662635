-- The scanner's pieces are the pieces of the text, and so the tokens of a text are found, and are the only ones.
use Rattle.std.proofs.Common.{◌≡◌, refl, sym, ap, ◌∙◌, subst, ℕ, ◌+◌, ◌<◌, ◌≤◌, ◌⊎◌, inl, inr, Bool, true, false, ◌||◌}
use Rattle.std.proofs.Common.{List, [], ◌∷◌, length, Some, None, arith, length-append}
use Rattle.jl_token.specs.Characters.{is_digit, is_hex_digit, is_on_line}
use Rattle.jl_token.specs.Punctuators.{punctuator_units}
use Rattle.jl_token.specs.Elements.{Element, White, LineEnd, LineComment, BlockComment, Word, Many, no_more, one_more}
use Rattle.jl_token.specs.Elements.{OneUnit, Name, name, Digits, digits, WholeDigits, zero_digit, nonzero, Exponent}
use Rattle.jl_token.specs.Elements.{no_exponent, no_sign, plus, minus, Numeral, whole, with_point, from_point, hex}
use Rattle.jl_token.specs.Elements.{StringLiteral, string, Front, white_space, line_terminator}
use Rattle.jl_token.specs.Elements.{carriage_return_line_feed, line_comment, block_comment, identifier_name, punctuator}
use Rattle.jl_token.specs.Elements.{numeric_literal, string_literal}
use Rattle.jl_token.specs.Faults.{Fault, unclosed_string, unclosed_comment, string_escape, name_escape, first_escape}
use Rattle.jl_token.specs.Faults.{digit_follows, name_follows, no_number, long_name, long_string, no_element}
use Rattle.jl_token.specs.Tokens.{Begins, Piece, piece, place, OnePiece, one_piece, tokens_among, Tokens, BadAt}
use Rattle.jl_token.specs.Tokens.{InOrder, TokensAreUnique, BadPlaceIsUnique, TokensOrBad, NeverBoth, SpansAreInOrder}
use Rattle.jl_token.specs.Tokens.{FewTokens}
use Rattle.jl_token.specs.inner.Scanner.{Outcome, found, bad, many, scan_word, scan, piece_found, next_piece}
use Rattle.jl_token.specs.declared.punct.Punct.{Punct}
use Rattle.jl_token.specs.declared.token.BadKind.{BadKind}
use Rattle.jl_token.specs.declared.token.Token.{Token}
use Rattle.jl_token.proofs.Rows.{Reads, nothing_at_end, many_sound, many_whole, Found}
use Rattle.jl_token.proofs.Tests.{some_pair}
use Rattle.jl_token.proofs.Parts.{reads_unit, reads_before_close, reads_start, reads_part}
use Rattle.jl_token.proofs.Strings.{reads_character}
use Rattle.jl_token.proofs.Numbers.{row_shorter, as_row, numeral_begins, begins_at}
use Rattle.jl_token.proofs.Table.{goes_well, each_goes_well}
use Rattle.jl_token.proofs.Found.{Right, right_element, right_fault, scan_right}
use Rattle.jl_token.proofs.Against.{Covers, a_fault, a_longer, the_same, scan_covers}
use Rattle.jl_token.proofs.Blamed.{scan_blamed}

-- an element takes a unit at least
units_shorter : (p : ℕ → Bool) {us ds rest : List ℕ} → Many (OneUnit p) us ds rest → length rest ≤ length us
units_shorter p m = row_shorter (reads_unit p).shorter m

whole_shorter : {us ds rest : List ℕ} → WholeDigits us ds rest → length rest < length us
whole_shorter zero_digit = omega arith
whole_shorter (nonzero z d) = digits_shorter d where
  digits_shorter : {us ds rest : List ℕ} → Digits is_digit us ds rest → length rest < length us
  digits_shorter (digits {us} {mid} {rest = rest} {d = d} o m) = let i = units_shorter is_digit m in
      let j = (reads_unit is_digit).shorter us d mid o in omega arith

exponent_shorter : {us rest : List ℕ} {r l : ℕ} → Exponent us r l rest → length rest ≤ length us
exponent_shorter no_exponent = omega arith
exponent_shorter (no_sign h d) = let i = units_shorter is_digit (as_row is_digit d) in omega arith
exponent_shorter (plus h d) = let i = units_shorter is_digit (as_row is_digit d) in omega arith
exponent_shorter (minus h d) = let i = units_shorter is_digit (as_row is_digit d) in omega arith

numeral_shorter : {us rest : List ℕ} {m r l : ℕ} → Numeral us m r l rest → length rest < length us
numeral_shorter (whole w e) = let i = whole_shorter w in let j = exponent_shorter e in omega arith
numeral_shorter (with_point w f e) = let i = whole_shorter w in let k = units_shorter is_digit f in
    let j = exponent_shorter e in omega arith
numeral_shorter (from_point f e) = let k = units_shorter is_digit (as_row is_digit f) in let j = exponent_shorter e in
    omega arith
numeral_shorter (hex h d) = let k = units_shorter is_hex_digit (as_row is_hex_digit d) in omega arith

name_shorter : {us rest : List ℕ} {xs : List (ℕ × Bool)} → Name us xs rest → length rest < length us
name_shorter (name {us} {mid} {rest} {x} s m) = let i = reads_start.shorter us x mid s in
    let j = row_shorter reads_part.shorter m in omega arith

string_shorter : {us rest : List ℕ} {cs : List (List ℕ × Bool)} → StringLiteral us cs rest → length rest < length us
string_shorter (string {mark} q m) = let i = row_shorter (reads_character mark q).shorter m in omega arith

pub nonempty : (p : Punct) (ws : List ℕ) → punctuator_units p ≡ ws → 0 < length ws
unfolding goes_well
nonempty p [] e = let h = subst (λ w. goes_well w ≡ true) e (each_goes_well p) in absurd (absurd_by h) where
  absurd_by : false ≡ true → ⊥
  absurd_by h = cc
nonempty p (w ∷ ws) e = omega arith

pub front_shorter : {us rest : List ℕ} {e : Element} → Front us e rest → length rest < length us
front_shorter (white_space h) = omega arith
front_shorter (line_terminator h) = omega arith
front_shorter carriage_return_line_feed = omega arith
front_shorter (line_comment m) = let i = units_shorter is_on_line m in omega arith
front_shorter (block_comment m) = let i = row_shorter reads_before_close.shorter m in omega arith
front_shorter (identifier_name n h) = name_shorter n
front_shorter (punctuator {us} {rest} p e) = let i = nonempty p (punctuator_units p) refl in
    let j = length-append (punctuator_units p) rest in let k = ap length e in omega arith
front_shorter (numeric_literal n v) = numeral_shorter n
front_shorter (string_literal s h) = string_shorter s

-- what begins is what the scanner finds
covers_longest : {o : Outcome} {d e : Element} {end rest : List ℕ} → Covers o e rest → o ≡ found d end
    → length rest ≤ length end → o ≡ found e rest
covers_longest {o} {d} {e} {end} {rest} a_fault q h = absurd (apart q) where
  apart : {k : BadKind} → bad k ≡ found d end → ⊥
  apart q = cc
covers_longest {d = d} {end = end} (a_longer {d = c} {end = a} l) q h = let b : a ≡ end = cc in
    absurd (omega (arith, ap length b))
covers_longest the_same q h = refl

found_by : (us : List ℕ) (e : Element) (rest : List ℕ) → Begins us e rest → (o : Outcome) → Right us o → scan us ≡ o
    → scan us ≡ found e rest
found_by us e rest b o (right_element {e = d} {rest = end} f) q = covers_longest (scan_covers b.formed) q
    (b.longest d end f)
found_by us e rest b o (right_fault {k} f) q = absurd (b.faultless k f)

begins_found : (us : List ℕ) (e : Element) (rest : List ℕ) → Begins us e rest → scan us ≡ found e rest
begins_found [] e rest b = let h = front_shorter b.formed in absurd (omega arith)
begins_found (u ∷ us) e rest b = found_by (u ∷ us) e rest b (scan (u ∷ us)) (scan_right u us) refl

-- and what it finds begins
covers_shortest : {o : Outcome} {d e : Element} {end rest : List ℕ} → Covers o e rest → o ≡ found d end
    → length end ≤ length rest
covers_shortest {o} {d} {e} {end} {rest} a_fault q = absurd (apart q) where
  apart : {k : BadKind} → bad k ≡ found d end → ⊥
  apart q = cc
covers_shortest {end = end} (a_longer {end = a} l) q = let b : a ≡ end = cc in omega (arith, ap length b)
covers_shortest {end = end} (the_same {rest = r}) q = let b : r ≡ end = cc in omega (arith, ap length b)

front_of : (us : List ℕ) (o : Outcome) (e : Element) (rest : List ℕ) → Right us o → o ≡ found e rest → Front us e rest
front_of us o e rest (right_element {e = d} {rest = end} f) q = let a : d ≡ e = cc in let b : end ≡ rest = cc in
    subst (λ x. Front us x rest) a (subst (λ x. Front us d x) b f)
front_of us o e rest (right_fault {k} f) q = absurd (apart q) where
  apart : {k : BadKind} → bad k ≡ found e rest → ⊥
  apart q = cc

found_begins : (u : ℕ) (us : List ℕ) (e : Element) (rest : List ℕ) → scan (u ∷ us) ≡ found e rest
    → Begins (u ∷ us) e rest
found_begins u us e rest q = record {
  formed = front_of (u ∷ us) (scan (u ∷ us)) e rest (scan_right u us) q;
  longest = λ d end f. covers_shortest (scan_covers f) q;
  faultless = λ k f. apart (sym (scan_blamed f) ∙ q);
} where
  apart : {k : BadKind} → bad k ≡ found e rest → ⊥
  apart q = cc

-- pieces
module _ (text : List ℕ) where
  piece_complete : (us : List ℕ) (a : Piece) (rest : List ℕ) → OnePiece text us a rest
      → next_piece text us ≡ Some (a, rest)
  unfolding next_piece piece_found
  piece_complete us a rest (one_piece {e = e} b) = rw (begins_found us e rest b) refl

  piece_by : (u : ℕ) (us : List ℕ) (o : Outcome) → scan (u ∷ us) ≡ o → (a : Piece) (rest : List ℕ)
      → piece_found text (u ∷ us) o ≡ Some (a, rest) → OnePiece text (u ∷ us) a rest
  unfolding piece_found
  piece_by u us (bad k) q a rest e = absurd (apart e) where
    apart : {x : Piece × List ℕ} → None ≡ Some x → ⊥
    apart q = cc
  piece_by u us (found d end) q a rest e = let p = some_pair e in
      subst (λ x. OnePiece text (u ∷ us) x rest) p.0
      (subst (λ x. OnePiece text (u ∷ us) (piece d (place text (u ∷ us)) (place text end)) x) p.1
      (one_piece (found_begins u us d end q)))

  piece_sound : (us : List ℕ) (a : Piece) (rest : List ℕ) → next_piece text us ≡ Some (a, rest)
      → OnePiece text us a rest
  unfolding next_piece piece_found scan scan_word
  piece_sound [] a rest e = absurd (apart e) where
    apart : {x : Piece × List ℕ} → None ≡ Some x → ⊥
    apart q = cc
  piece_sound (u ∷ us) a rest e = piece_by u us (scan (u ∷ us)) refl a rest e

  piece_shorter : (us : List ℕ) (a : Piece) (rest : List ℕ) → OnePiece text us a rest → length rest < length us
  piece_shorter us a rest (one_piece b) = front_shorter b.formed

  pub reads_piece : Reads (OnePiece text) (next_piece text)
  reads_piece = record { complete = piece_complete; sound = piece_sound; shorter = piece_shorter }

  fault_stops : (us : List ℕ) (k : BadKind) → Fault us k → next_piece text us ≡ None
  unfolding next_piece piece_found
  fault_stops us k f = rw (scan_blamed f) refl

-- no fault stands at the end of the text
no_number_at_end : {us rest : List ℕ} {m r l : ℕ} → Numeral us m r l rest → us ≡ [] → ⊥
no_number_at_end n q = let h = subst (λ w. begins_at w ≡ true) q (numeral_begins n) in apart h where
  apart : false ≡ true → ⊥
  apart h = cc

empty_end : (us rest : List ℕ) → length rest < length us → us ≡ [] → ⊥
empty_end us rest h q = omega (arith, ap length q)

no_fault_at_end : {us : List ℕ} {k : BadKind} → us ≡ [] → Fault us k → ⊥
no_fault_at_end q (unclosed_string h m n) = cc
no_fault_at_end q (unclosed_comment n) = cc
no_fault_at_end q (string_escape h m n) = cc
no_fault_at_end {us} q (name_escape {rest = rest} n h) = empty_end us (92 ∷ rest) (name_shorter n) q
no_fault_at_end q (first_escape n) = cc
no_fault_at_end q (digit_follows n h) = no_number_at_end n.formed q
no_fault_at_end q (name_follows n h) = no_number_at_end n.formed q
no_fault_at_end q (no_number n h) = no_number_at_end n.formed q
no_fault_at_end {us} q (long_name {rest = rest} n h b g) = empty_end us rest (name_shorter n) q
no_fault_at_end {us} q (long_string {rest = rest} s h) = empty_end us rest (string_shorter s) q
no_fault_at_end q (no_element f) = cc

-- the laws
pub pieces_found : {text : List ℕ} {ps : List Piece} → Many (OnePiece text) text ps [] → many (next_piece text) text
    ≡ (ps, [])
pieces_found {text} splits =
    many_whole (OnePiece text) (next_piece text) (reads_piece text) splits
    (nothing_at_end (OnePiece text) (next_piece text) (reads_piece text))

tokens_found : {text : List ℕ} {ts : List Token} (t : Tokens text ts) → many (next_piece text) text ≡ (t.pieces, [])
tokens_found t = pieces_found t.splits

bad_found : {text : List ℕ} {i : ℕ} {k : BadKind} (b : BadAt text i k) → many (next_piece text) text
    ≡ (b.pieces, b.left)
bad_found {text} {i} {k} b =
    many_whole (OnePiece text) (next_piece text) (reads_piece text) b.splits (fault_stops text b.left k b.fault)

pub same_first : {A B : Type 0} {a b : A} {x y : B} → ◌≡◌ {A = A × B} (a, x) (b, y) → a ≡ b
same_first {A} {B} e = ap (λ (z : A × B). z.0) e

same_second : {A B : Type 0} {a b : A} {x y : B} → ◌≡◌ {A = A × B} (a, x) (b, y) → x ≡ y
same_second {A} {B} e = ap (λ (z : A × B). z.1) e

pub tokens_are_unique : TokensAreUnique
tokens_are_unique text ts us t u =
    t.are ∙ (ap (tokens_among false) (same_first (sym (tokens_found t) ∙ tokens_found u)) ∙ sym u.are)

pub bad_place_is_unique : BadPlaceIsUnique
bad_place_is_unique text i j k l b c =
    let e = same_second (sym (bad_found b) ∙ bad_found c) in (
      b.there ∙ (ap (place text) e ∙ sym c.there),
      same_kind (sym (scan_blamed b.fault)
          ∙ (ap scan e ∙ scan_blamed c.fault)),
    ) where
      same_kind : {k l : BadKind} → bad k ≡ bad l → k ≡ l
      same_kind e = cc

pub never_both : NeverBoth
never_both text ts i k t b = no_fault_at_end (same_second (sym (bad_found b) ∙ tokens_found t)) b.fault

-- a text by what is left where the pieces end
pub split_whole : (text : List ℕ) (x : List Piece × List ℕ)
    → Found (OnePiece text) (next_piece text) (reads_piece text) text x → x.1 ≡ [] → Many (OnePiece text) text x.0 []
split_whole text (ps, left) f e = subst (λ w. Many (OnePiece text) text ps w) e f.row

pub ended : (text : List ℕ) (x : List Piece × List ℕ)
    → Found (OnePiece text) (next_piece text) (reads_piece text) text x → x.1 ≡ []
    → Tokens text (tokens_among false x.0)
ended text x f e = record { pieces = x.0; splits = split_whole text x f e; are = refl }

pub stopped : (text : List ℕ) (ps : List Piece) (left : List ℕ) (k : BadKind) → Many (OnePiece text) text ps left
    → Fault left k → BadAt text (place text left) k
stopped text ps left k m f = record { pieces = ps; left = left; splits = m; there = refl; fault = f }

bad_by : (text : List ℕ) (ps : List Piece) (u : ℕ) (us : List ℕ) → Many (OnePiece text) text ps (u ∷ us) → (o : Outcome)
    → Right (u ∷ us) o → piece_found text (u ∷ us) o ≡ None → ((i : ℕ) × (k : BadKind) × BadAt text i k)
unfolding piece_found
bad_by text ps u us m (found e rest) r n = absurd (apart n) where
  apart : {x : Piece × List ℕ} → Some x ≡ None → ⊥
  apart q = cc
bad_by text ps u us m (bad k) (right_fault f) n = (place text (u ∷ us), k, stopped text ps (u ∷ us) k m f)

either_by : (text : List ℕ) (x : List Piece × List ℕ)
    → Found (OnePiece text) (next_piece text) (reads_piece text) text x → ((ts : List Token) × Tokens text ts)
    ⊎ ((i : ℕ) × (k : BadKind) × BadAt text i k)
unfolding next_piece
either_by text (ps, []) f = inl (tokens_among false ps, ended text (ps, []) f refl)
either_by text (ps, (u ∷ us)) f = inr (bad_by text ps u us f.row (scan (u ∷ us)) (scan_right u us) f.ends)

pub tokens_or_bad : TokensOrBad
tokens_or_bad text = either_by text (many (next_piece text) text)
    (many_sound (OnePiece text) (next_piece text) (reads_piece text) text)

-- spans
in_order : (text us rest : List ℕ) (ps : List Piece) (line : Bool) (i : ℕ) → Many (OnePiece text) us ps rest
    → length us ≤ length text → i ≤ place text us → InOrder i (length text) (tokens_among line ps)
in_order text us rest ps line i no_more h g = omega arith
in_order text us rest ps line i (one_more {mid} {xs} (one_piece {e = White} b) m) h g = let s = front_shorter
    b.formed in in_order text mid rest xs line i m (omega arith) (omega arith)
in_order text us rest ps line i (one_more {mid} {xs} (one_piece {e = LineEnd} b) m) h g = let s = front_shorter
    b.formed in in_order text mid rest xs true i m (omega arith) (omega arith)
in_order text us rest ps line i (one_more {mid} {xs} (one_piece {e = LineComment} b) m) h g = let s = front_shorter
    b.formed in in_order text mid rest xs line i m (omega arith) (omega arith)
in_order text us rest ps line i (one_more {mid} {xs} (one_piece {e = BlockComment l} b) m) h g = let s = front_shorter
    b.formed in in_order text mid rest xs (line || l) i m (omega arith) (omega arith)
in_order text us rest ps line i (one_more {mid} {xs} (one_piece {e = Word k} b) m) h g = let s = front_shorter
    b.formed in (g, omega arith, in_order text mid rest xs false (place text mid) m (omega arith) (omega arith))

pub spans_are_in_order : SpansAreInOrder
spans_are_in_order text ts t =
    subst (λ w. InOrder 0 (length text) w) (sym t.are)
    (in_order text text [] t.pieces false 0 t.splits (omega arith) (omega arith))

-- tokens that stand in order are no more than the places that they stand on
few_in : (ts : List Token) (i j : ℕ) → InOrder i j ts → length ts + i ≤ j
few_in [] i j h = omega (arith, h)
few_in (t ∷ ts) i j h = omega (arith, h.0, h.1, few_in ts t.span.to j h.2)

pub few_tokens : FewTokens
few_tokens text ts t = omega (arith, few_in ts 0 (length text) (spans_are_in_order text ts t))
