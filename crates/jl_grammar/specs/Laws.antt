-- The laws of the grammar.
use Rattle.std.specs.Prelude.{◌≡◌, ◌↔◌, ◌≤◌, ℕ, suc, true, false, List, length, Some}
use Rattle.jl_ast.specs.Numbering.{functions_in}
use Rattle.jl_ast.specs.Tree.{Program}
use Rattle.jl_ast.specs.Tree as tree
use Rattle.jl_text.specs.declared.span.Span.{Span}
use Rattle.jl_token.specs.declared.token.Token.{Token}
use Rattle.jl_grammar.specs.declared.terminal.Terminal.TheVariants as terminals
use Rattle.jl_grammar.specs.Next.{is_directive}
use Rattle.jl_grammar.specs.Nodes.{nodes}
use Rattle.jl_grammar.specs.Program.{Reads}
use Rattle.jl_grammar.specs.ReaderLevels.{program_at}
use Rattle.jl_grammar.specs.Reads.{EndsAt, ReadsExpression, ReadsStatement, Stmt}
use Rattle.jl_grammar.specs.Tokens.{At, span, text_at}

-- a list of tokens reads as one program at most
abbrev pub OneReading : Type 0
OneReading = (ts : List Token) (limit : ℕ) (p q : Program Span) → Reads ts limit p → Reads ts limit q → p ≡ q

-- a limit may refuse a program, and never gives another
abbrev pub LimitsAgree : Type 0
LimitsAgree = (ts : List Token) (limit other : ℕ) (p q : Program Span) → Reads ts limit p → Reads ts other q → p ≡ q

-- the reader tells what a list of tokens reads as
abbrev pub ReaderTells : Type 0
ReaderTells = (ts : List Token) (limit : ℕ) (p : Program Span) → (program_at ts limit ≡ Some p) ↔ Reads ts limit p

-- the statement w, from place i to j, is the one string token at i and a semicolon that is there or is inserted
pub record IsAlone (ts : List Token) (i : ℕ) (w : Stmt) (j : ℕ) : Type 0 where
  pub string : At ts i terminals.Str
  pub expression : ReadsExpression ts false i (tree.string (text_at ts i) (span ts i (suc i))) (suc i)
  pub end : EndsAt ts (suc i) j
  pub is : w ≡ tree.expression (tree.string (text_at ts i) (span ts i (suc i))) (span ts i j)

-- the test for a directive tells the statements that are a string alone (14.1)
abbrev pub DirectivesAreAlone : Type 0
DirectivesAreAlone = (ts : List Token) (i : ℕ) (w : Stmt) (j : ℕ) → ReadsStatement ts i w j
    → (is_directive ts i ≡ true) ↔ IsAlone ts i w j

-- a program has no more nodes than tokens
abbrev pub FewNodes : Type 0
FewNodes = (ts : List Token) (limit : ℕ) (p : Program Span) → Reads ts limit p → nodes p.body ≤ length ts

-- and no more functions than nodes
abbrev pub FunctionsAreNodes : Type 0
FunctionsAreNodes = (p : Program Span) → functions_in p.body ≤ nodes p.body
