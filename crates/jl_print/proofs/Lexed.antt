-- A text that is laid out has the tokens that it was made of.
use Rattle.std.proofs.Common.{◌≡◌, ℕ, suc, Bool, true, false, ◌&&◌, ◌||◌, refl, ap, sym, ◌∙◌, subst, List, []}
use Rattle.std.proofs.Common.{◌∷◌, ◌++◌, length}
use Rattle.std.specs.Prelude.{if◌then◌else◌}
use Rattle.jl_grammar.specs.Words.{same_text}
use Rattle.jl_text.specs.Quoted.{quoted_after}
use Rattle.jl_token.specs.Characters.{is_digit, first_is}
use Rattle.jl_token.specs.Elements.{White, LineEnd, Word, Many, no_more, one_more}
use Rattle.jl_token.specs.Punctuators.{punctuator_units}
use Rattle.jl_token.specs.inner.Scanner.{scan, found}
use Rattle.jl_token.specs.Spelling.{spelling_of}
use Rattle.jl_token.specs.Tokens.{Piece, piece, place, OnePiece, tokens_among}
use Rattle.jl_token.specs.declared.punct.Punct.{Punct}
use Rattle.jl_token.specs.declared.punct.Punct.TheVariants as puncts
use Rattle.jl_token.specs.declared.token.Token.{Token}
use Rattle.jl_token.specs.declared.token.TokenKind.{TokenKind}
use Rattle.jl_token.specs.declared.token.TokenKind.TheVariants as kinds
use Rattle.jl_token.proofs.Tests.{and_true}
use Rattle.jl_token.proofs.Units.{units, starts}
use Rattle.jl_print.specs.Layout.{ends_line, is_number, is_dot, joins_right, joins_left, between, layout_of}
use Rattle.jl_print.specs.WellFormed.{IsName, IsLiteral, IsShort}
use Rattle.jl_print.proofs.Followers.{Follows, line_feed, space, left_paren, right_paren, comma, dot, semicolon}
use Rattle.jl_print.proofs.Followers.{left_bracket, right_bracket, one_found, line_feed_found, space_found, name_found}
use Rattle.jl_print.proofs.Followers.{left_paren_found, left_bracket_found, dot_found, punctuator_scanned}
use Rattle.jl_print.proofs.Laid.{Laid}
use Rattle.jl_print.proofs.LexedNumbers as numbers
use Rattle.jl_print.proofs.LexedNumbers.{FollowsNumber, number_found}
use Rattle.jl_print.proofs.LexedStrings.{string_found}
use Rattle.jl_print.proofs.Spells.{Spells}

-- a kind as the lexer would make it
abbrev pub IsClean : TokenKind → Type 0
IsClean (kinds.Name t escaped) = (escaped ≡ false) × IsName t
IsClean (kinds.Punct p) = Unit {0}
IsClean (kinds.Number n) = IsLiteral n
IsClean (kinds.Str t plain) = (plain ≡ same_text (quoted_after 0 t) t) × IsShort t

-- kinds that can be laid out, after a dot or not: no number follows a dot
abbrev pub CleanFrom : Bool → List TokenKind → Type 0
CleanFrom after_dot [] = Unit {0}
CleanFrom after_dot (k ∷ ks) = IsClean k × ((after_dot && is_number k) ≡ false) × CleanFrom (is_dot k) ks

-- `(` and `[` may stand before anything, a dot before anything but a digit, and other punctuators as names do
pub data FitsPunct : Punct → List ℕ → Type 0 where
  after_paren : {us : List ℕ} → FitsPunct puncts.LeftParen us
  after_bracket : {us : List ℕ} → FitsPunct puncts.LeftBracket us
  after_point : {us : List ℕ} → first_is is_digit us ≡ false → FitsPunct puncts.Dot us
  after_other : {p : Punct} {us : List ℕ} → Follows us → FitsPunct p us

-- what may follow a kind
abbrev Fits : TokenKind → List ℕ → Type 0
Fits (kinds.Name t escaped) us = Follows us
Fits (kinds.Number n) us = FollowsNumber us
Fits (kinds.Str t plain) us = Unit {0}
Fits (kinds.Punct p) us = FitsPunct p us

punct_found : {p : Punct} {rest : List ℕ} → FitsPunct p rest
    → scan (punctuator_units p ++ rest) ≡ found (Word (kinds.Punct p)) rest
punct_found {rest = rest} after_paren = left_paren_found rest
punct_found {rest = rest} after_bracket = left_bracket_found rest
punct_found {rest = rest} (after_point f) = dot_found rest f
punct_found {p = p} (after_other f) = punctuator_scanned p f

word_found : (k : TokenKind) (rest : List ℕ) → IsClean k → Fits k rest → scan (spelling_of k ++ rest)
    ≡ found (Word k) rest
word_found (kinds.Name t escaped) rest w f =
    name_found t rest w.1.letters w.1.short f ∙ ap (λ e. found (Word (kinds.Name t e)) rest) (sym w.0)
word_found (kinds.Number n) rest w f =
    subst (λ n. scan (spelling_of (kinds.Number n) ++ rest) ≡ found (Word (kinds.Number n)) rest)
    (sym w.is) (number_found w.value rest w.inside f)
word_found (kinds.Str t plain) rest w f =
    string_found t rest w.1 ∙ ap (λ e. found (Word (kinds.Str t e)) rest) (sym w.0)
word_found (kinds.Punct p) rest w f = punct_found f

-- what stands between a kind that joins nothing on its right, and another
abbrev apart : TokenKind → List ℕ
apart l = if joins_left l then [] else 32 ∷ []

after_word : (l : TokenKind) (us : List ℕ) → Follows (apart l ++ (spelling_of l ++ us))
after_word (kinds.Name t escaped) us = space
after_word (kinds.Number n) us = space
after_word (kinds.Str t plain) us = space
after_word (kinds.Punct puncts.RightParen) us = right_paren
after_word (kinds.Punct puncts.RightBracket) us = right_bracket
after_word (kinds.Punct puncts.Comma) us = comma
after_word (kinds.Punct puncts.Semicolon) us = semicolon
after_word (kinds.Punct puncts.Dot) us = dot
after_word (kinds.Punct puncts.LeftParen) us = left_paren
after_word (kinds.Punct puncts.LeftBracket) us = left_bracket
after_word (kinds.Punct _) us = space

after_number : (l : TokenKind) (us : List ℕ)
    → FollowsNumber ((if is_dot l then 32 ∷ [] else apart l) ++ (spelling_of l ++ us))
after_number (kinds.Name t escaped) us = numbers.space
after_number (kinds.Number n) us = numbers.space
after_number (kinds.Str t plain) us = numbers.space
after_number (kinds.Punct puncts.RightParen) us = numbers.right_paren
after_number (kinds.Punct puncts.RightBracket) us = numbers.right_bracket
after_number (kinds.Punct puncts.Comma) us = numbers.comma
after_number (kinds.Punct puncts.Semicolon) us = numbers.semicolon
after_number (kinds.Punct puncts.Dot) us = numbers.space
after_number (kinds.Punct puncts.LeftParen) us = numbers.left_paren
after_number (kinds.Punct puncts.LeftBracket) us = numbers.left_bracket
after_number (kinds.Punct _) us = numbers.space

-- only a number begins with a digit
no_digit_first : (l : TokenKind) (us : List ℕ) → IsClean l → is_number l ≡ false
    → first_is is_digit (spelling_of l ++ us) ≡ false
unfolding units
no_digit_first (kinds.Name [] escaped) us w h = absurd (differ w.1.letters)
  where
    differ : false ≡ true → ⊥
    differ e = cc
no_digit_first (kinds.Name (u ∷ t) escaped) us w h = (starts u (and_true _ _ w.1.letters).0).digit
no_digit_first (kinds.Number n) us w h = cc
no_digit_first (kinds.Str t plain) us w h = refl
no_digit_first (kinds.Punct puncts.LeftBrace) us w h = refl
no_digit_first (kinds.Punct _) us w h = refl

fitting : (k l : TokenKind) (us : List ℕ) → IsClean l → (is_dot k && is_number l) ≡ false
    → Fits k (between k l ++ (spelling_of l ++ us))
fitting (kinds.Name t escaped) l us w h = after_word l us
fitting (kinds.Number n) l us w h = after_number l us
fitting (kinds.Str t plain) l us w h = tt
fitting (kinds.Punct puncts.LeftBrace) l us w h = after_other line_feed
fitting (kinds.Punct puncts.RightBrace) l us w h = after_other line_feed
fitting (kinds.Punct puncts.LeftParen) l us w h = after_paren
fitting (kinds.Punct puncts.LeftBracket) l us w h = after_bracket
fitting (kinds.Punct puncts.Dot) l us w h = after_point (no_digit_first l us w h)
fitting (kinds.Punct puncts.Semicolon) l us w h = after_other line_feed
fitting (kinds.Punct _) l us w h = after_other (after_word l us)

-- a list of tokens with one more in front
shifted : (t : Token) (ts : List Token) (i : ℕ) (line : Bool) (ks : List TokenKind) (j : ℕ) → Spells ts i line ks j
    → Spells (t ∷ ts) (suc i) line ks (suc j)
shifted t ts i line [] j h = ap suc h
shifted t ts i line (k ∷ ks) j h =
    (record { kind = h.0.kind; line = h.0.line }, shifted t ts (suc i) (ends_line k) ks j h.1)

-- the pieces of what is left of a text, and the tokens among them
record Split (text us : List ℕ) (line : Bool) (ks : List TokenKind) : Type 0 where
  pieces : List Piece
  splits : Many (OnePiece text) us pieces []
  spelled : Spells (tokens_among line pieces) 0 line ks (length (tokens_among line pieces))

-- the same, where the tokens are those that follow a kind: after it a line ends or not
record SplitAfter (text us : List ℕ) (line : Bool) (ks : List TokenKind) : Type 0 where
  pieces : List Piece
  splits : Many (OnePiece text) us pieces []
  spelled : Spells (tokens_among false pieces) 0 line ks (length (tokens_among false pieces))

-- what stands between two kinds is one piece at most, and ends a line where the first kind does
separated : (text : List ℕ) (k l : TokenKind) (rest : List ℕ) (ks : List TokenKind) → Split text rest (ends_line k) ks
    → SplitAfter text (between k l ++ rest) (ends_line k) ks
separated text k l rest ks = go (ends_line k) (is_number k && is_dot l) (joins_right k || joins_left l)
  where
    spaced : Split text rest false ks → SplitAfter text (32 ∷ rest) false ks
    spaced s = record {
      pieces = piece White (place text (32 ∷ rest)) (place text rest) ∷ s.pieces;
      splits = one_more (one_found text (32 ∷ rest) White rest (space_found rest)) s.splits;
      spelled = s.spelled;
    }

    go : (a b c : Bool) → Split text rest a ks
        → SplitAfter text ((if a then 10 ∷ [] else (if b then 32 ∷ [] else (if c then [] else 32 ∷ []))) ++ rest) a ks
    go true b c s = record {
      pieces = piece LineEnd (place text (10 ∷ rest)) (place text rest) ∷ s.pieces;
      splits = one_more (one_found text (10 ∷ rest) LineEnd rest (line_feed_found rest)) s.splits;
      spelled = s.spelled;
    }
    go false true c s = spaced s
    go false false true s = record { pieces = s.pieces; splits = s.splits; spelled = s.spelled }
    go false false false s = spaced s

-- a kind, and what follows it
with_kind : (text : List ℕ) (line : Bool) (k : TokenKind) (rest : List ℕ) (ks : List TokenKind) → IsClean k
    → Fits k rest → SplitAfter text rest (ends_line k) ks → Split text (spelling_of k ++ rest) line (k ∷ ks)
with_kind text line k rest ks w f s =
    let us = spelling_of k ++ rest in
    let t : Token = record {
      kind = k;
      span = record { from = place text us; to = place text rest };
      line_before = line;
    } in
    record {
      pieces = piece (Word k) (place text us) (place text rest) ∷ s.pieces;
      splits = one_more (one_found text us (Word k) rest (word_found k rest w f)) s.splits;
      spelled = (
        record { kind = refl; line = refl },
        shifted t (tokens_among false s.pieces) 0 (ends_line k) ks (length (tokens_among false s.pieces)) s.spelled,
      );
    }

-- before the last line feed anything fits
fits_last : (k : TokenKind) → Fits k (10 ∷ [])
unfolding units
fits_last (kinds.Name t escaped) = line_feed
fits_last (kinds.Number n) = numbers.line_feed
fits_last (kinds.Str t plain) = tt
fits_last (kinds.Punct p) = after_other line_feed

last_line : (text : List ℕ) (line : Bool) → SplitAfter text (10 ∷ []) line []
last_line text line = record {
  pieces = piece LineEnd (place text (10 ∷ [])) (place text []) ∷ [];
  splits = one_more (one_found text (10 ∷ []) LineEnd [] (line_feed_found [])) no_more;
  spelled = refl;
}

split : (text : List ℕ) (after_dot line : Bool) (ks : List TokenKind) → CleanFrom after_dot ks
    → Split text (layout_of ks) line ks
split text d line [] w = record { pieces = []; splits = no_more; spelled = refl }
split text d line (k ∷ []) w = with_kind text line k (10 ∷ []) [] w.0 (fits_last k) (last_line text (ends_line k))
split text d line (k ∷ l ∷ []) w =
    with_kind text line k (between k l ++ layout_of (l ∷ [])) (l ∷ []) w.0 (fitting k l (10 ∷ []) w.2.0 w.2.1)
    (separated text k l (layout_of (l ∷ [])) (l ∷ []) (split text (is_dot k) (ends_line k) (l ∷ []) w.2))
split text d line (k ∷ l ∷ m ∷ ks) w =
    with_kind text line k (between k l ++ layout_of (l ∷ m ∷ ks)) (l ∷ m ∷ ks) w.0
    (fitting k l (between l m ++ layout_of (m ∷ ks)) w.2.0 w.2.1)
    (separated text k l (layout_of (l ∷ m ∷ ks)) (l ∷ m ∷ ks) (split text (is_dot k) (ends_line k) (l ∷ m ∷ ks) w.2))

pub laid : (ks : List TokenKind) → CleanFrom false ks → Laid ks
laid ks w =
    let s = split (layout_of ks) false false ks w in
    record {
      tokens = tokens_among false s.pieces;
      lexed = record { pieces = s.pieces; splits = s.splits; are = refl };
      spelled = s.spelled;
    }
