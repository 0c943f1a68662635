-- What a whole list of tokens reads as.
use Rattle.std.specs.Prelude.{◌≡◌, ℕ, ◌≤◌, ◌*◌, List, [], ◌∷◌, length}
use Rattle.jl_ast.specs.Height.{program_height}
use Rattle.jl_ast.specs.Numbering.{with_numbers}
use Rattle.jl_ast.specs.Tree.{Program}
use Rattle.jl_text.specs.declared.span.Span.{Span}
use Rattle.jl_token.specs.declared.token.Token.{Token}
use Rattle.jl_grammar.specs.Brackets.{open_brackets}
use Rattle.jl_grammar.specs.Reads.{Code, ReadsBody}

-- the end of the last token, and 0 where there is none
abbrev pub last_end : List Token → ℕ
last_end [] = 0
last_end (t ∷ []) = t.span.to
last_end (t ∷ u ∷ ts) = last_end (u ∷ ts)

-- a program of what was read, from 0 to the end of the last token
abbrev pub program_of : List Token → Code → Program Span
program_of ts c = with_numbers (record { body = c; at = record { from = 0; to = last_end ts } })

-- All the tokens read as p (clause 14), which is no higher than limit, and at no place are more than twice as many
-- brackets open.
pub record Reads (ts : List Token) (limit : ℕ) (p : Program Span) : Type 0 where
  pub code : Code
  pub whole : ReadsBody ts 0 code (length ts)
  pub is : p ≡ program_of ts code
  pub low : program_height p ≤ limit
  pub shallow : (i : ℕ) → open_brackets ts i ≤ 2 * limit
