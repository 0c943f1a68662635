-- What the reader is made of: what is read with the place after it, tests of terminals, and what is read one level
-- deeper.
use Rattle.std.specs.Prelude.{ℕ, zero, suc, ◌-◌, Bool, true, false, not, ◌&&◌, ◌||◌, List, [], ◌∷◌}
use Rattle.std.specs.Prelude.{length, Option, Some, None, option_and_then, nat_le, if◌then◌else◌}
use Rattle.jl_ast.specs.Height.{height}
use Rattle.jl_ast.specs.Tree.{Ident, Tree}
use Rattle.jl_ast.specs.Tree as tree
use Rattle.jl_text.specs.declared.span.Span.{Span}
use Rattle.jl_token.specs.declared.punct.Punct.TheVariants as puncts
use Rattle.jl_token.specs.declared.token.Token.{Token}
use Rattle.jl_grammar.specs.declared.terminal.Terminal.{Terminal}
use Rattle.jl_grammar.specs.declared.terminal.Terminal.TheVariants as terminals
use Rattle.jl_grammar.specs.declared.word.Word.TheVariants as words
use Rattle.jl_grammar.specs.Next.{is_identifier, is_semicolon}
use Rattle.jl_grammar.specs.Next.{is_comma, ends_statement}
use Rattle.jl_grammar.specs.Reads.{Expr, Stmt, Code}
use Rattle.jl_grammar.specs.Tokens.{terminal_at, line_at, ident_at}

infixl 10 ◌>>=◌
abbrev pub ◌>>=◌ : {A B : Type 0} → Option A → (A → Option B) → Option B
o >>= f = option_and_then f o

-- what was read, and the place after it
abbrev pub Read : Type 0 → Type 0
Read A = Option (A × ℕ)

abbrev pub succeed : {A : Type 0} → A → ℕ → Read A
succeed t j = Some (t, j)

-- a node that ends before j, of which the parts may be so high, and what comes after it
unfoldable pub node : {x : tree.Sort} {B : Type 0} → ℕ → Tree Span x → ℕ → (Tree Span x → ℕ → Option B) → Option B
node most t j go = if nat_le (height t) (suc most) then go t j else None

abbrev pub is_close_paren : Terminal → Bool
is_close_paren (terminals.Punct puncts.RightParen) = true
is_close_paren _ = false

abbrev pub is_close_bracket : Terminal → Bool
is_close_bracket (terminals.Punct puncts.RightBracket) = true
is_close_bracket _ = false

abbrev pub is_close_brace : Terminal → Bool
is_close_brace (terminals.Punct puncts.RightBrace) = true
is_close_brace _ = false

abbrev pub is_function : Terminal → Bool
is_function (terminals.Word words.Function) = true
is_function _ = false

abbrev pub is_new : Terminal → Bool
is_new (terminals.Word words.New) = true
is_new _ = false

abbrev pub is_while : Terminal → Bool
is_while (terminals.Word words.While) = true
is_while _ = false

abbrev pub is_in : Terminal → Bool
is_in (terminals.Word words.In) = true
is_in _ = false

abbrev pub is_var : Terminal → Bool
is_var (terminals.Word words.Var) = true
is_var _ = false

abbrev pub is_case : Terminal → Bool
is_case (terminals.Word words.Case) = true
is_case _ = false

abbrev pub is_default : Terminal → Bool
is_default (terminals.Word words.Default) = true
is_default _ = false

abbrev pub is_catch : Terminal → Bool
is_catch (terminals.Word words.Catch) = true
is_catch _ = false

-- the name that an expression is
abbrev pub name_of : Expr → Option (Ident Span)
name_of (tree.name t s) = Some (record { text = t; at = s })
name_of _ = None

-- a body after a directive, which may make it strict
abbrev pub with_directive : Bool → Code → Code
with_directive strict (tree.body s fs ws) = tree.body (strict || s) fs ws

-- how high the parts of a node that begins at a place may be, and what is read one level deeper
pub record Deeper : Type 0 where
  pub room : ℕ → ℕ
  pub expression : Bool → ℕ → Read Expr
  pub assignment : Bool → ℕ → Read Expr
  pub unary : ℕ → Read Expr
  pub binary : Bool → ℕ → ℕ → Read Expr
  pub member : ℕ → Read Expr
  pub statement : ℕ → Read Stmt
  pub rest : ℕ → Read (List (Ident Span) × Code)

-- the place after a semicolon that is there or is inserted
unfoldable pub ends_at : List Token → ℕ → Option ℕ
ends_at ts i = if is_semicolon (terminal_at ts i) then Some (suc i) else
    (if ends_statement (terminal_at ts i) || line_at ts i then Some i else None)

-- at most n names and the bracket after them
unfoldable pub names_from : List Token → ℕ → ℕ → Read (List (Ident Span))
names_from ts zero i = None
names_from ts (suc n) i =
    if is_identifier (terminal_at ts i)
    then (if is_close_paren (terminal_at ts (suc i))
    then Some (ident_at ts i ∷ [], suc (suc i))
    else (if is_comma (terminal_at ts (suc i))
    then (names_from ts n (suc (suc i)) >>= λ r. Some (ident_at ts i ∷ r.0, r.1))
    else None))
    else None

unfoldable pub parameters_at : List Token → ℕ → Read (List (Ident Span))
parameters_at ts i = if is_close_paren (terminal_at ts i) then Some ([], suc i) else names_from ts (length ts) i

-- the label of a `continue` or `break`, or none, and the end of the statement
unfoldable pub label_at : List Token → ℕ → Read (Option (Ident Span))
label_at ts i =
    if is_identifier (terminal_at ts i) && not (line_at ts i)
    then (ends_at ts (suc i) >>= λ k. Some (Some (ident_at ts i), k))
    else (ends_at ts i >>= λ k. Some (None, k))
