-- The program that is read from the text that a shelf lends.
use Rattle.std.specs.Prelude.{◌≡◌, ℕ, ◌≤◌, Bool, true, List, Option, length}
use Rattle.jl_ast.specs.Tree.{Program}
use Rattle.jl_grammar.specs.Program.{Reads}
use Rattle.jl_scope.specs.EarlyError.{first_early_error, EarlyError}
use Rattle.jl_text.specs.declared.span.Span.{Span}
use Rattle.jl_token.specs.declared.token.Token.{Token}
use Rattle.jl_token.specs.Tokens.{Tokens}
use Rattle.jl_app.specs.Forms.{is_sound, most_bytes, most_levels}
use Rattle.jl_app.specs.declared.form.Form.TheVariants as forms

-- the most units that the text has, and the most levels of the program
abbrev pub most_woven_units : ℕ
most_woven_units = most_bytes forms.WovenText

abbrev pub most_woven_levels : ℕ
most_woven_levels = most_levels forms.WovenText

-- of all that may be wrong with a program, this is only that it names the hooks, as a woven program does
abbrev pub may_run : Option EarlyError → Bool
may_run first = is_sound forms.WovenText first

-- the text reads as this program, in which no early rule is broken and no left-out name is used
pub record IsReadBack (text : List ℕ) (p : Program Span) : Type 0 where
  pub short : length text ≤ most_woven_units
  pub tokens : List Token
  pub lexed : Tokens text tokens
  pub read : Reads tokens most_woven_levels p
  pub sound : may_run (first_early_error p) ≡ true
