-- Small texts as tokens, and what they read as without places.
use Rattle.std.proofs.Common.{ℕ, ◌+◌, Bool, true, false, List, [], ◌∷◌, Option, Some, None, is_some, codes, pos}
use Rattle.jl_ast.specs.Spans.{without_spans}
use Rattle.jl_ast.specs.Tree.{Ident, Program, Text, Tree, code}
use Rattle.jl_text.specs.declared.span.Span.{Span}
use Rattle.jl_token.specs.declared.punct.Punct.{Punct}
use Rattle.jl_token.specs.declared.token.Token.{Token}
use Rattle.jl_token.specs.declared.token.TokenKind.{TokenKind}
use Rattle.jl_token.specs.declared.token.TokenKind.TheVariants as kinds
use Rattle.jl_grammar.specs.ReaderLevels.{program_at}

-- a token with whether a line ends before it
abbrev pub Placeless : Type 0
Placeless = TokenKind × Bool

abbrev pub word : Text → Placeless
word t = (kinds.Name t false, false)

abbrev pub escaped : Text → Placeless
escaped t = (kinds.Name t true, false)

abbrev pub number : ℕ → Placeless
number n = (kinds.Number (Some (pos n)), false)

abbrev pub string : Text → Placeless
string t = (kinds.Str t true, false)

-- a string with an escape in it
abbrev pub odd_string : Text → Placeless
odd_string t = (kinds.Str t false, false)

abbrev pub terminal : Punct → Placeless
terminal p = (kinds.Punct p, false)

abbrev pub below : Placeless → Placeless
below t = (t.0, true)

-- tokens of one unit each, side by side
abbrev pub placed : ℕ → List Placeless → List Token
placed n [] = []
placed n (t ∷ ts) = record { kind = t.0; span = record { from = n; to = n + 1 }; line_before = t.1 }
    ∷ placed (n + 1) ts

abbrev without_places : Option (Program Span) → Option (Program (Unit {0}))
without_places None = None
without_places (Some p) = Some (without_spans p)

abbrev pub read : List Placeless → Option (Program (Unit {0}))
read ts = without_places (program_at (placed 0 ts) 10)

-- with places
abbrev pub placed_read : List Placeless → Option (Program Span)
placed_read ts = program_at (placed 0 ts) 10

-- whether there is a program within a limit
abbrev pub read_within : ℕ → List Placeless → Bool
read_within limit ts = is_some (program_at (placed 0 ts) limit)

abbrev pub from : ℕ → ℕ → Span
from i j = record { from = i; to = j }

abbrev pub named : Text → ℕ → ℕ → Ident Span
named t i j = record { text = t; at = from i j }

abbrev pub at_places : ℕ → ℕ → Tree Span code → Program Span
at_places i j c = record { body = c; at = from i j }

abbrev pub program : Tree (Unit {0}) code → Option (Program (Unit {0}))
program c = Some (record { body = c; at = tt })

abbrev pub ident : Text → Ident (Unit {0})
ident t = record { text = t; at = tt }

abbrev pub a : Text
a = codes "a"

abbrev pub b : Text
b = codes "b"

abbrev pub c : Text
c = codes "c"

abbrev pub d : Text
d = codes "d"

abbrev pub e : Text
e = codes "e"

abbrev pub f : Text
f = codes "f"

abbrev pub g : Text
g = codes "g"

abbrev pub k : Text
k = codes "k"

abbrev pub o : Text
o = codes "o"

abbrev pub x : Text
x = codes "x"

abbrev pub y : Text
y = codes "y"
