-- The bytes that are accepted, and as what.
use Rattle.std.specs.Prelude.{◌≡◌, ℕ, ◌≤◌, true, List, length}
use Rattle.std.specs.Str.{IsUtf8}
use Rattle.jl_ast.specs.Tree.{Program}
use Rattle.jl_text.specs.Encoding.{units_of}
use Rattle.jl_text.specs.declared.span.Span.{Span}
use Rattle.jl_token.specs.declared.token.Token.{Token}
use Rattle.jl_token.specs.Tokens.{Tokens}
use Rattle.jl_grammar.specs.Program.{Reads}
use Rattle.jl_scope.specs.EarlyError.{first_early_error}
use Rattle.jl_app.specs.Forms.{is_sound, most_bytes, most_levels}
use Rattle.jl_app.specs.declared.form.Form.{Form}
use Rattle.jl_app.specs.declared.form.Form.TheVariants as forms

-- The bytes are read as the program p, which is sound: there are not too many, they are UTF-8, they have tokens, and
-- the program has not too many levels.
pub record IsRead (form : Form) (bytes : List ℕ) (p : Program Span) : Type 0 where
  pub short : length bytes ≤ most_bytes form
  pub decoded : IsUtf8 bytes
  pub tokens : List Token
  pub lexed : Tokens (units_of bytes) tokens
  pub read : Reads tokens (most_levels form) p
  pub sound : is_sound form (first_early_error p) ≡ true

-- the bytes are accepted as the program p: no early rule is broken, no left-out name is used, and no reserved one
abbrev pub IsAccepted : List ℕ → Program Span → Type 0
IsAccepted bytes p = IsRead forms.Script bytes p

-- the bytes are a text
pub record IsText (form : Form) (bytes : List ℕ) : Type 0 where
  pub short : length bytes ≤ most_bytes form
  pub decoded : IsUtf8 bytes

-- the bytes are a text with these tokens
pub record HasTokens (form : Form) (bytes : List ℕ) (ts : List Token) : Type 0 where
  pub text : IsText form bytes
  pub lexed : Tokens (units_of bytes) ts

-- the bytes read as the program p, sound or not
pub record IsProgram (form : Form) (bytes : List ℕ) (p : Program Span) : Type 0 where
  pub tokens : List Token
  pub has : HasTokens form bytes tokens
  pub read : Reads tokens (most_levels form) p

-- no bytes are read as two programs
abbrev pub OneReading : Type 0
OneReading = (form : Form) (bytes : List ℕ) (p q : Program Span) → IsRead form bytes p → IsRead form bytes q → p ≡ q
