-- What is accepted as a script. Which programs break no early rule and use no name that is left out, is a test that is
-- given.
use Rattle.std.specs.Prelude.{◌≡◌, ℕ, ◌≤◌, Bool, true, List, length}
use Rattle.std.specs.Str.{IsUtf8}
use Rattle.jl_ast.specs.Tree.{Program}
use Rattle.jl_text.specs.Encoding.{units_of}
use Rattle.jl_text.specs.declared.span.Span.{Span}
use Rattle.jl_token.specs.declared.token.Token.{Token}
use Rattle.jl_token.specs.Tokens.{Tokens}
use Rattle.jl_grammar.specs.Program.{Reads}

-- The bytes are accepted as the program p: at most 1,048,576 of them, in UTF-8, that have tokens, and no more than 200
-- levels.
pub record Accepted (is_legal : Program Span → Bool) (bytes : List ℕ) (p : Program Span) : Type 0 where
  pub short : length bytes ≤ 1048576
  pub decoded : IsUtf8 bytes
  pub tokens : List Token
  pub lexed : Tokens (units_of bytes) tokens
  pub read : Reads tokens 200 p
  pub legal : is_legal p ≡ true

-- bytes are accepted as one program at most
abbrev pub OneAccepted : Type 0
OneAccepted = (is_legal : Program Span → Bool) (bytes : List ℕ) (p q : Program Span) → Accepted is_legal bytes p
    → Accepted is_legal bytes q → p ≡ q
