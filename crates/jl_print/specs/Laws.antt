-- The laws of the canonical text.
use Rattle.std.specs.Prelude.{◌≡◌, ◌≤◌, ℕ, false, List}
use Rattle.std.specs.Char.Utf16.{has_unpaired_surrogate}
use Rattle.jl_ast.specs.Height.{program_height}
use Rattle.jl_ast.specs.Spans.{without_spans}
use Rattle.jl_ast.specs.Tree.{Program}
use Rattle.jl_grammar.specs.Program.{Reads}
use Rattle.jl_text.specs.declared.span.Span.{Span}
use Rattle.jl_token.specs.Tokens.{Tokens}
use Rattle.jl_token.specs.declared.token.Token.{Token}
use Rattle.jl_print.specs.Layout.{text_of}
use Rattle.jl_print.specs.WellFormed.{IsWellFormed}

-- within the limit the text reads as the program, but for places
pub record ReadsBack (text : List ℕ) (limit : ℕ) (p : Program Span) : Type 0 where
  pub tokens : List Token
  pub lexed : Tokens text tokens
  pub program : Program Span
  pub read : Reads tokens limit program
  pub same : without_spans program ≡ without_spans p

-- the canonical text of a well formed program reads back, within any limit that the program keeps
abbrev pub PrintedReadsBack : Type 0
PrintedReadsBack =
    (p : Program Span) (limit : ℕ) → IsWellFormed p → program_height p ≤ limit → ReadsBack (text_of p) limit p

-- what is read of a text is well formed
abbrev pub ReadIsWellFormed : Type 0
ReadIsWellFormed = (text : List ℕ) (ts : List Token) (limit : ℕ) (p : Program Span) → Tokens text ts
    → Reads ts limit p → IsWellFormed p

-- each surrogate in the canonical text of a well formed program has its partner
abbrev pub TextIsPaired : Type 0
TextIsPaired = (p : Program Span) → IsWellFormed p → has_unpaired_surrogate (text_of p) ≡ false
