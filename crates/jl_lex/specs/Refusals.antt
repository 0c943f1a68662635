-- What a refusal of the lexer says of the text.
use Rattle.std.specs.Prelude.{ℕ, List}
use Rattle.jl_token.specs.Tokens.{BadAt}
use Rattle.jl_lex.specs.declared.element.Stop.{Stop}
use Rattle.jl_lex.specs.declared.element.Stop.TheVariants as stops
use Rattle.jl_lex.specs.declared.lexer.LexRefusal.{LexRefusal}
use Rattle.jl_lex.specs.declared.lexer.LexRefusal.TheVariants.{BadInput, NoMemory}

-- bad input: the first input element that can't be formed stands there; want of memory says nothing of the text
abbrev pub IsRefusal : List ℕ → LexRefusal → Type 0
IsRefusal text (BadInput at kind) = BadAt text at kind
IsRefusal text NoMemory = Unit {0}

-- the refusal for an element that begins at a place
abbrev pub refusal_at : Stop → ℕ → LexRefusal
refusal_at (stops.Bad k) i = BadInput i k
refusal_at stops.NoMemory i = NoMemory
