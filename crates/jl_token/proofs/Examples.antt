-- The definition at small texts, each reckoned by the plain scanner.
use Rattle.std.proofs.Common.{◌≡◌, refl, subst, ℕ, false, List, [], ◌∷◌, codes}
use Rattle.jl_token.specs.Characters.{are_hex_digits, hex_number, hex_digit_value, single_escape}
use Rattle.jl_token.specs.Elements.{Many}
use Rattle.jl_token.specs.Faults.{Fault}
use Rattle.jl_token.specs.Tokens.{Tokens, BadAt, OnePiece, place}
use Rattle.jl_token.specs.inner.Scanner.{Outcome, found, bad, many_by, many_within, many, one_unit, name_escape, letter}
use Rattle.jl_token.specs.inner.Scanner.{name_done, name_from, before_close, block_end, some_digits, exponent_powers}
use Rattle.jl_token.specs.inner.Scanner.{exponent_by, exponent_sign, exponent, with_exponent, after_fraction}
use Rattle.jl_token.specs.inner.Scanner.{after_whole, hex_literal, after_zero, from_whole, numeral, value_of}
use Rattle.jl_token.specs.inner.Scanner.{is_some_of, number_of, number_end, after_line_feed, hex_escape, unicode_escape}
use Rattle.jl_token.specs.inner.Scanner.{other_escape, escape_by, escape, character, string_stop, string_done, strip}
use Rattle.jl_token.specs.inner.Scanner.{or_else, first_punctuator, punctuator_found, scan_word, scan, piece_found}
use Rattle.jl_token.specs.inner.Scanner.{next_piece}
use Rattle.jl_token.specs.declared.token.Token.{Token}
use Rattle.jl_token.specs.declared.token.TokenKind.{TokenKind}
use Rattle.jl_token.specs.declared.token.TokenKind.TheVariants.{Name, Punct}
use Rattle.jl_token.specs.declared.token.BadKind.{BadKind}
use Rattle.jl_token.specs.declared.token.BadKind.TheVariants.{BadNumber, BadEscape, UnclosedText}
use Rattle.jl_token.specs.declared.punct.Punct.TheVariants.{Slash, ShiftRightUnsignedAssign, ShiftRight}
use Rattle.jl_token.proofs.Rows.{many_sound}
use Rattle.jl_token.proofs.Units.{units}
use Rattle.jl_token.proofs.Found.{Right, right_element, right_fault, scan_right}
use Rattle.jl_token.proofs.Whole.{reads_piece, ended, stopped}

unfoldable scanned : Unit {0}
unfolding units are_hex_digits hex_number hex_digit_value single_escape many_by many_within many one_unit name_escape
    letter name_done name_from before_close block_end some_digits exponent_powers exponent_by exponent_sign exponent
    with_exponent after_fraction after_whole hex_literal after_zero from_whole numeral value_of is_some_of number_of
    number_end after_line_feed hex_escape unicode_escape other_escape escape_by escape character string_stop string_done
    strip or_else first_punctuator punctuator_found scan_word scan piece_found next_piece
scanned = tt

token : TokenKind → ℕ → ℕ → Token
token kind i j = record { kind = kind; span = record { from = i; to = j }; line_before = false }

-- a fault where the pieces end
fault_of : (us : List ℕ) (o : Outcome) (k : BadKind) → Right us o → o ≡ bad k → Fault us k
fault_of us o k (right_element {e} {rest} f) q = absurd (apart q) where
  apart : found e rest ≡ bad k → ⊥
  apart q = cc
fault_of us o k (right_fault {k = l} f) q =
    let a : l ≡ k = cc in
    subst (λ x. Fault us x) a f

bad_at : (text us : List ℕ) (u : ℕ) (k : BadKind) → (many (next_piece text) text).1 ≡ u ∷ us → scan (u ∷ us) ≡ bad k
    → BadAt text (place text (u ∷ us)) k
bad_at text us u k e q =
    let m = (many_sound (OnePiece text) (next_piece text) (reads_piece text) text).row in
    stopped text (many (next_piece text) text).0 (u ∷ us) k
    (subst (λ (w : List ℕ). Many (OnePiece text) text (many (next_piece text) text).0 w) e m)
    (fault_of (u ∷ us) (scan (u ∷ us)) k (scan_right u us) q)

-- `a/b/c` has five tokens
slashes : Tokens (codes "a/b/c") (token (Name (codes "a") false) 0 1 ∷ token (Punct Slash) 1 2
    ∷ token (Name (codes "b") false) 2 3 ∷ token (Punct Slash) 3 4 ∷ token (Name (codes "c") false) 4 5 ∷ [])
unfolding scanned token
slashes = ended (codes "a/b/c") (many (next_piece (codes "a/b/c")) (codes "a/b/c"))
    (many_sound (OnePiece (codes "a/b/c")) (next_piece (codes "a/b/c")) (reads_piece (codes "a/b/c")) (codes "a/b/c"))
    refl

-- `>>>=>>` has two
shifts : Tokens (codes ">>>=>>") (token (Punct ShiftRightUnsignedAssign) 0 4 ∷ token (Punct ShiftRight) 4 6 ∷ [])
unfolding scanned token
shifts = ended (codes ">>>=>>") (many (next_piece (codes ">>>=>>")) (codes ">>>=>>"))
    (many_sound (OnePiece (codes ">>>=>>")) (next_piece (codes ">>>=>>")) (reads_piece (codes ">>>=>>"))
    (codes ">>>=>>")) refl

-- `x=1.5;`, `3in`, and a string that ends inside an escape
fraction : BadAt (codes "x=1.5;") 2 BadNumber
unfolding scanned
fraction = bad_at (codes "x=1.5;") (codes ".5;") 49 BadNumber refl refl

three_in : BadAt (codes "3in") 0 BadNumber
unfolding scanned
three_in = bad_at (codes "3in") (codes "in") 51 BadNumber refl refl

cut_escape : BadAt (34 ∷ 92 ∷ 120 ∷ 52 ∷ []) 0 BadEscape
unfolding scanned
cut_escape = bad_at (34 ∷ 92 ∷ 120 ∷ 52 ∷ []) (92 ∷ 120 ∷ 52 ∷ []) 34 BadEscape refl refl

cut_backslash : BadAt (34 ∷ 97 ∷ 92 ∷ []) 0 UnclosedText
unfolding scanned
cut_backslash = bad_at (34 ∷ 97 ∷ 92 ∷ []) (97 ∷ 92 ∷ []) 34 UnclosedText refl refl
