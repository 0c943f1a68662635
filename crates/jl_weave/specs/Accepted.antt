-- The programs of which weaving promises that they do the same: every accepted script is one.
use Rattle.std.specs.Prelude.{◌≡◌, ◌<◌, ℕ, List, [], length}
use Rattle.jl_text.specs.declared.span.Span.{Span}
use Rattle.jl_token.specs.declared.token.Token.{Token}
use Rattle.jl_ast.specs.Tree.{Program}
use Rattle.jl_scope.specs.EarlyErrors.{early_errors_of}
use Rattle.jl_grammar.specs.Program.{Reads}

-- It is read of fewer than 2^30 - 1 tokens, within some limit on its levels, and has no early errors.
pub record IsAccepted (p : Program Span) : Type 0 where
  pub tokens : List Token
  pub levels : ℕ
  pub read : Reads tokens levels p
  pub few : length tokens < 1073741823
  pub sound : early_errors_of p ≡ []
