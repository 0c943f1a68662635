-- The tokens of a text that is laid out.
use Rattle.std.specs.Prelude.{List, length, false}
use Rattle.jl_token.specs.Tokens.{Tokens}
use Rattle.jl_token.specs.declared.token.Token.{Token}
use Rattle.jl_token.specs.declared.token.TokenKind.{TokenKind}
use Rattle.jl_print.specs.Layout.{layout_of}
use Rattle.jl_print.proofs.Spells.{Spells}

-- the text has tokens of these kinds, with a line end before each that follows a `;`, `{` or `}`
pub record Laid (ks : List TokenKind) : Type 0 where
  pub tokens : List Token
  pub lexed : Tokens (layout_of ks) tokens
  pub spelled : Spells tokens 0 false ks (length tokens)
