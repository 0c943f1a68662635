-- What follows a token of the canonical text, and how names, punctuators and white space are found before it.
use Rattle.std.proofs.Common.{◌≡◌, ℕ, Bool, true, false, ◌&&◌, ◌==◌, refl, ap, List, [], ◌∷◌}
use Rattle.std.proofs.Common.{◌++◌, None, length, map, ◌≤◌}
use Rattle.std.proofs.lemmas.Bool.{le-leb}
use Rattle.jl_token.specs.Characters.{is_identifier_start, is_identifier_part, is_digit, first_is}
use Rattle.jl_token.specs.Elements.{Element, White, LineEnd, Word, Many, no_more, one_more, Letter, itself, name_text}
use Rattle.jl_token.specs.Elements.{is_escaped}
use Rattle.jl_token.specs.Punctuators.{punctuator_units}
use Rattle.jl_token.specs.inner.Scanner.{found, letter, name_escape, name_done}
use Rattle.jl_token.specs.inner.Scanner.{name_from, strip, or_else, first_punctuator, punctuator_found, scan_word, scan}
use Rattle.jl_token.specs.inner.Scanner.{piece_found, next_piece, after_line_feed}
use Rattle.jl_token.specs.Tokens.{piece, place, OnePiece}
use Rattle.jl_token.specs.declared.punct.Punct.{Punct}
use Rattle.jl_token.specs.declared.punct.Punct.TheVariants as puncts
use Rattle.jl_token.specs.declared.token.TokenKind.TheVariants as kinds
use Rattle.jl_token.proofs.Parts.{reads_part}
use Rattle.jl_token.proofs.Rows.{many_whole}
use Rattle.jl_token.proofs.Units.{units, starts}
use Rattle.jl_token.proofs.Whole.{reads_piece}
use Rattle.jl_print.specs.WellFormed.{is_identifier_name, are_parts}

-- the units that follow a name or an operator: a line feed, a space, or one of `( ) , . ; [ ]`
pub data Follows : List ℕ → Type 0 where
  line_feed : {us : List ℕ} → Follows (10 ∷ us)
  space : {us : List ℕ} → Follows (32 ∷ us)
  left_paren : {us : List ℕ} → Follows (40 ∷ us)
  right_paren : {us : List ℕ} → Follows (41 ∷ us)
  comma : {us : List ℕ} → Follows (44 ∷ us)
  dot : {us : List ℕ} → Follows (46 ∷ us)
  semicolon : {us : List ℕ} → Follows (59 ∷ us)
  left_bracket : {us : List ℕ} → Follows (91 ∷ us)
  right_bracket : {us : List ℕ} → Follows (93 ∷ us)

-- what the scanner finds is a piece
pub one_found : (text us : List ℕ) (e : Element) (rest : List ℕ) → scan us ≡ found e rest
    → OnePiece text us (piece e (place text us) (place text rest)) rest
unfolding next_piece piece_found
one_found text us e rest h = (reads_piece text).sound us (piece e (place text us) (place text rest)) rest
    (ap (piece_found text us) h)

pub line_feed_found : (us : List ℕ) → scan (10 ∷ us) ≡ found LineEnd us
unfolding scan units after_line_feed
line_feed_found us = refl

pub space_found : (us : List ℕ) → scan (32 ∷ us) ≡ found White us
unfolding scan units
space_found us = refl

-- names

no_letter : {us : List ℕ} → Follows us → letter is_identifier_part us ≡ None
unfolding letter name_escape units
no_letter line_feed = refl
no_letter space = refl
no_letter left_paren = refl
no_letter right_paren = refl
no_letter comma = refl
no_letter dot = refl
no_letter semicolon = refl
no_letter left_bracket = refl
no_letter right_bracket = refl

no_backslash : {us : List ℕ} → Follows us → first_is (λ u. u == 92) us ≡ false
no_backslash line_feed = refl
no_backslash space = refl
no_backslash left_paren = refl
no_backslash right_paren = refl
no_backslash comma = refl
no_backslash dot = refl
no_backslash semicolon = refl
no_backslash left_bracket = refl
no_backslash right_bracket = refl

-- letters that stand there themselves
abbrev plainly : List ℕ → List (ℕ × Bool)
plainly us = map (λ u. (u, false)) us

and_parts : (a b : Bool) → (a && b) ≡ true → (a ≡ true) × (b ≡ true)
and_parts true b h = (refl, h)
and_parts false b h = cc

parts_stand : (us rest : List ℕ) → are_parts us ≡ true → Many (Letter is_identifier_part) (us ++ rest) (plainly us) rest
parts_stand [] rest h = no_more
parts_stand (u ∷ us) rest h = let p = and_parts _ _ h in one_more (itself p.0) (parts_stand us rest p.1)

plain_text : (us : List ℕ) → name_text (plainly us) ≡ us
plain_text [] = refl
plain_text (u ∷ us) = ap (λ l. u ∷ l) (plain_text us)

plain_escaped : (us : List ℕ) → is_escaped (plainly us) ≡ false
plain_escaped [] = refl
plain_escaped (u ∷ us) = plain_escaped us

name_scanned : (u : ℕ) (us rest : List ℕ) → is_identifier_start u ≡ true → are_parts us ≡ true
    → length (u ∷ us) ≤ 1048576 → Follows rest
    → scan ((u ∷ us) ++ rest) ≡ found (Word (kinds.Name (u ∷ us) false)) rest
unfolding scan scan_word name_from name_done letter
name_scanned u us rest s p l f =
    let c = starts u s in
    let m = many_whole (Letter is_identifier_part) (letter is_identifier_part) reads_part (parts_stand us rest p)
    (no_letter f) in
    let e = plain_text us in
    let g = plain_escaped us in
    rw (c.white, c.line, c.slash, c.quote, c.digit, c.point, s, m, e, g, no_backslash f, le-leb _ _ l) refl

pub name_found : (t rest : List ℕ) → is_identifier_name t ≡ true → length t ≤ 1048576 → Follows rest
    → scan (t ++ rest) ≡ found (Word (kinds.Name t false)) rest
name_found [] rest h l f = cc
name_found (u ∷ us) rest h l f = let p = and_parts _ _ h in name_scanned u us rest p.0 p.1 l f

-- punctuators: `(`, `[` and `.` with anything after them that doesn't make a number of the dot

unfoldable table : Unit {0}
unfolding scan scan_word units strip or_else first_punctuator punctuator_found
table = tt

pub left_paren_found : (rest : List ℕ) → scan (40 ∷ rest) ≡ found (Word (kinds.Punct puncts.LeftParen)) rest
unfolding table
left_paren_found rest = refl

pub left_bracket_found : (rest : List ℕ) → scan (91 ∷ rest) ≡ found (Word (kinds.Punct puncts.LeftBracket)) rest
unfolding table
left_bracket_found rest = refl

pub dot_found : (rest : List ℕ) → first_is is_digit rest ≡ false
    → scan (46 ∷ rest) ≡ found (Word (kinds.Punct puncts.Dot)) rest
unfolding table
dot_found rest h = rw h refl

-- all of them before what follows them
pub punctuator_scanned : (p : Punct) {rest : List ℕ} → Follows rest
    → scan (punctuator_units p ++ rest) ≡ found (Word (kinds.Punct p)) rest
unfolding table
punctuator_scanned puncts.LeftBrace line_feed = refl
punctuator_scanned _ line_feed = refl
punctuator_scanned puncts.LeftBrace space = refl
punctuator_scanned _ space = refl
punctuator_scanned puncts.LeftBrace left_paren = refl
punctuator_scanned _ left_paren = refl
punctuator_scanned puncts.LeftBrace right_paren = refl
punctuator_scanned _ right_paren = refl
punctuator_scanned puncts.LeftBrace comma = refl
punctuator_scanned _ comma = refl
punctuator_scanned puncts.LeftBrace dot = refl
punctuator_scanned _ dot = refl
punctuator_scanned puncts.LeftBrace semicolon = refl
punctuator_scanned _ semicolon = refl
punctuator_scanned puncts.LeftBrace left_bracket = refl
punctuator_scanned _ left_bracket = refl
punctuator_scanned puncts.LeftBrace right_bracket = refl
punctuator_scanned _ right_bracket = refl
