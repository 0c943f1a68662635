-- The tokens at the places of a list, counted from 0.
use Rattle.std.specs.Prelude.{◌≡◌, ℕ, zero, suc, Bool, true, false, ◌&&◌, List, [], ◌∷◌, None, codes}
use Rattle.jl_ast.specs.Tree.{Ident, Text}
use Rattle.jl_num.specs.Digits.{number_text}
use Rattle.jl_num.specs.Number.{Number}
use Rattle.jl_text.specs.declared.span.Span.{Span}
use Rattle.jl_token.specs.declared.token.Token.{Token}
use Rattle.jl_token.specs.declared.token.TokenKind.{TokenKind}
use Rattle.jl_token.specs.declared.token.TokenKind.TheVariants as kinds
use Rattle.jl_grammar.specs.declared.terminal.Terminal.{Terminal}
use Rattle.jl_grammar.specs.declared.terminal.Terminal.TheVariants as terminals
use Rattle.jl_grammar.specs.Terminals.{terminal_of}
use Rattle.jl_grammar.specs.Words.{same_text}

-- what the i-th token is, and the terminal of the end past the last one
abbrev pub terminal_at : List Token → ℕ → Terminal
terminal_at [] i = terminals.End
terminal_at (t ∷ ts) zero = terminal_of t.kind
terminal_at (t ∷ ts) (suc i) = terminal_at ts i

-- the i-th token is such a one
pub record At (ts : List Token) (i : ℕ) (k : Terminal) : Type 0 where
  pub is : terminal_at ts i ≡ k

-- the i-th token passes the test
pub record Is (test : Terminal → Bool) (ts : List Token) (i : ℕ) : Type 0 where
  pub is : test (terminal_at ts i) ≡ true

-- a line ends between the i-th token, or the end, and the token before it
abbrev pub line_at : List Token → ℕ → Bool
line_at [] i = true
line_at (t ∷ ts) zero = t.line_before
line_at (t ∷ ts) (suc i) = line_at ts i

abbrev text_of : TokenKind → Text
text_of (kinds.Name t escaped) = t
text_of (kinds.Str t plain) = t
text_of _ = []

-- the text of the i-th token, which is a name or a string
abbrev pub text_at : List Token → ℕ → Text
text_at [] i = []
text_at (t ∷ ts) zero = text_of t.kind
text_at (t ∷ ts) (suc i) = text_at ts i

abbrev number_of : TokenKind → Number
number_of (kinds.Number n) = n
number_of _ = None

-- the number of the i-th token, which is a numeric literal
abbrev pub number_at : List Token → ℕ → Number
number_at [] i = None
number_at (t ∷ ts) zero = number_of t.kind
number_at (t ∷ ts) (suc i) = number_at ts i

-- the key that a token is (11.1.5): a number stands for its digits (9.8.1)
abbrev key_of : TokenKind → Text
key_of (kinds.Number n) = number_text n 10
key_of k = text_of k

abbrev pub key_at : List Token → ℕ → Text
key_at [] i = []
key_at (t ∷ ts) zero = key_of t.kind
key_at (t ∷ ts) (suc i) = key_at ts i

-- a string of these units, written with neither an escape nor a line continuation (14.1)
abbrev is_plain_text : Text → TokenKind → Bool
is_plain_text wanted (kinds.Str t plain) = plain && same_text wanted t
is_plain_text wanted _ = false

-- the i-th token is the directive of strict code (14.1)
abbrev pub strict_at : List Token → ℕ → Bool
strict_at [] i = false
strict_at (t ∷ ts) zero = is_plain_text (codes "use strict") t.kind
strict_at (t ∷ ts) (suc i) = strict_at ts i

abbrev pub from_at : List Token → ℕ → ℕ
from_at [] i = 0
from_at (t ∷ ts) zero = t.span.from
from_at (t ∷ ts) (suc i) = from_at ts i

abbrev pub to_at : List Token → ℕ → ℕ
to_at [] i = 0
to_at (t ∷ ts) zero = t.span.to
to_at (t ∷ ts) (suc i) = to_at ts i

-- from the i-th token to the end of the last one before the j-th
unfoldable pub span : List Token → ℕ → ℕ → Span
span ts i zero = record { from = from_at ts i; to = 0 }
span ts i (suc j) = record { from = from_at ts i; to = to_at ts j }

-- the name that the i-th token is
abbrev pub ident_at : List Token → ℕ → Ident Span
ident_at ts i = record { text = text_at ts i; at = span ts i (suc i) }

-- the key that the i-th token is, as a name
abbrev pub key_ident_at : List Token → ℕ → Ident Span
key_ident_at ts i = record { text = key_at ts i; at = span ts i (suc i) }
