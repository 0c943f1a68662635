-- What the parser's functions answer, by the reader of jl_grammar. A step of the proof: no public clause cites it.
use Rattle.std.specs.Prelude.{◌≡◌, ℕ, zero, suc, Bool, true, false, ◌&&◌, List, [], ◌∷◌, ◌++◌, length, map, Option}
use Rattle.std.specs.Prelude.{Some, None, Result, Ok, Err}
use Rattle.std.specs.Prelude.{if◌then◌else◌}
use Rattle.std.specs.Global.{Global}
use Rattle.std.specs.declared.boxed.Box.{Box}
use Rattle.jl_text.specs.declared.span.Span.{Span}
use Rattle.jl_token.specs.declared.token.Token.{Token}
use Rattle.jl_ast.specs.Tree as tree
use Rattle.jl_ast.specs.Tree.{Tree, Forest, Ident, OptionalTree}
use Rattle.jl_ast.specs.View.{view_body, view_expression, view_ident, view_statement}
use Rattle.jl_ast.specs.declared.tree.Body.{Body as CodeBody}
use Rattle.jl_ast.specs.declared.tree.Expr.{Expr as CodeExpr}
use Rattle.jl_ast.specs.declared.tree.Ident.{Ident as CodeIdent}
use Rattle.jl_ast.specs.declared.tree.Stmt.{Stmt as CodeStmt}
use Rattle.jl_grammar.specs.Brackets.{open_brackets}
use Rattle.jl_grammar.specs.Next.{is_colon, is_identifier, is_semicolon}
use Rattle.jl_grammar.specs.Reader.{◌>>=◌, Deeper, Read, succeed, is_case, is_close_paren, is_default, node}
use Rattle.jl_grammar.specs.Reader.{optional_at, statements_from}
use Rattle.jl_grammar.specs.ReaderLevels.{deeper}
use Rattle.jl_grammar.specs.Reads.{Code, Expr, Stmt, Stmts}
use Rattle.jl_grammar.specs.Tokens.{ident_at, terminal_at, span}
use Rattle.jl_grammar.specs.declared.terminal.Terminal.{Terminal}
use Rattle.jl_grammar.specs.declared.terminal.Terminal.TheVariants as terminals
use Rattle.jl_grammar.specs.Operators.{InfixOperator, plain, both, either}
use Rattle.jl_parse.specs.declared.depth.Depth.{Depth}
use Rattle.jl_parse.specs.declared.operators.InfixOperator.{InfixOperator as CodeInfixOperator}
use Rattle.jl_parse.specs.declared.operators.InfixOperator.TheVariants as infix_operators
use Rattle.jl_parse.specs.declared.refusal.Stop.{Stop}
use Rattle.jl_parse.specs.declared.refusal.Stop.TheVariants as stops

abbrev pub is_end : Terminal → Bool
is_end terminals.End = true
is_end _ = false

-- why there is no answer: nothing is read, or memory ran out
abbrev pub Refuses : {Y : Type 0} → Stop → Option Y → Type 0
Refuses (stops.At i) read = read ≡ None
Refuses stops.NoMemory read = Unit {0}

-- the answer, seen by view, is what is read, unless memory ran out
abbrev pub Gives : {X Y : Type 0} → (X → Y) → Result X Stop → Option Y → Type 0
Gives view (Ok x) read = read ≡ Some (view x)
Gives view (Err e) read = Refuses e read

-- the answer is the expression that is read, with the place after it
abbrev pub GivesExpression : Result (Box CodeExpr Global × ℕ) Stop → Read Expr → Type 0
GivesExpression result read = Gives (λ x. (view_expression x.0.value, x.1)) result read

-- the answer is the statement that is read, with the place after it
abbrev pub GivesStatement : Result (CodeStmt × ℕ) Stop → Read Stmt → Type 0
GivesStatement result read = Gives (λ x. (view_statement x.0, x.1)) result read

-- the answer is the parameters and the body that are read, with the place after them
abbrev pub GivesRest : Result ((List CodeIdent × CodeBody) × ℕ) Stop → Read (List (Ident Span) × Code) → Type 0
GivesRest result read = Gives (λ x. ((map view_ident x.0.0, view_body x.0.1), x.1)) result read

-- what is read with so many levels left
abbrev pub within : List Token → Depth → Deeper
within ts depth = deeper ts depth.brackets depth.levels

-- the answer is this expression from place i to place j, if it is low enough
abbrev pub MakesExpression : List Token → Depth → ℕ → ℕ → (Span → Expr) → Result (Box CodeExpr Global × ℕ) Stop → Type 0
MakesExpression ts depth i j t result =
    GivesExpression result (node ((within ts depth).room i) (t (span ts i j)) j succeed)

-- the answer is this statement from place i to place j, if it is low enough
abbrev pub MakesStatement : List Token → Depth → ℕ → ℕ → (Span → Stmt) → Result (CodeStmt × ℕ) Stop → Type 0
MakesStatement ts depth i j t result =
    GivesStatement result (node ((within ts depth).room i) (t (span ts i j)) j succeed)

-- how many brackets are open before each of the first n tokens
abbrev pub counts : List Token → ℕ → List ℕ
counts ts zero = []
counts ts (suc n) = counts ts n ++ (open_brackets ts n ∷ [])

-- so many brackets are open before each token, and in the end
abbrev pub AreCounts : List Token → List ℕ → ℕ → Type 0
AreCounts ts before last = (before ≡ counts ts (length ts)) × (last ≡ open_brackets ts (length ts))

-- one forest after another
abbrev pub append : {x : tree.Sort} → Forest Span x → Forest Span x → Forest Span x
append tree.end b = b
append (tree.more t a) b = tree.more t (append a b)

-- a function declaration (clause 13)
abbrev pub declaration_of : List Token → Deeper → ℕ → Read (Tree Span tree.func)
declaration_of ts d i =
    if is_identifier (terminal_at ts (suc i))
    then (d.rest (suc (suc i)) >>= λ x.
    node (d.room i) (tree.function 0 (Some (ident_at ts (suc i))) x.0.0 x.0.1 (span ts i x.1)) x.1 succeed)
    else None

-- what is read of a body after these declarations and statements
abbrev pub with_elements : Bool → Forest Span tree.func → Stmts → Read (Forest Span tree.func × Stmts) → Read Code
with_elements strict fs ws None = None
with_elements strict fs ws (Some r) = Some (tree.body strict (append fs r.0.0) (append ws r.0.1), r.1)

-- a clause of a `switch` (12.11); a default one only where fresh
unfoldable pub clause_of : List Token → Deeper → Bool → ℕ → Read (Tree Span tree.clause)
clause_of ts d fresh i =
    if is_case (terminal_at ts i)
    then (d.expression false (suc i) >>= λ t. if is_colon (terminal_at ts t.1)
    then (statements_from ts d (length ts) (suc t.1) >>= λ x. Some (tree.case (tree.present t.0) x.0, x.1))
    else None)
    else (if is_default (terminal_at ts i) && (fresh && is_colon (terminal_at ts (suc i)))
    then (statements_from ts d (length ts) (suc (suc i)) >>= λ x. Some (tree.case tree.absent x.0, x.1))
    else None)

-- an expression, or none, and what ends it
unfoldable pub optional_until : List Token → Deeper → (Terminal → Bool) → ℕ → Read (OptionalTree Span tree.expr)
optional_until ts d ends i =
    optional_at ts d ends i >>= λ x. if ends (terminal_at ts x.1) then Some (x.0, suc x.1) else None

-- the test and the step of a `for` to behind its `)` (12.6.3)
unfoldable pub test_and_step_at : List Token → Deeper → ℕ
    → Read (OptionalTree Span tree.expr × OptionalTree Span tree.expr)
test_and_step_at ts d i =
    optional_until ts d is_semicolon i >>= λ b.
    optional_until ts d is_close_paren b.1 >>= λ c. Some ((b.0, c.0), c.1)

-- the head of a `for` from its first semicolon to behind its `)` (12.6.3): its first part, its test and its step
unfoldable pub for_head_from : List Token → Deeper → Tree Span tree.init × ℕ
    → Read (Tree Span tree.init × (OptionalTree Span tree.expr × OptionalTree Span tree.expr))
for_head_from ts d a =
    if is_semicolon (terminal_at ts a.1)
    then (test_and_step_at ts d (suc a.1) >>= λ b. Some ((a.0, b.0), b.1))
    else None

-- the infix operator that the code's is
abbrev pub infix_operator_of : CodeInfixOperator → InfixOperator
infix_operator_of (infix_operators.Plain op) = plain op
infix_operator_of infix_operators.And = both
infix_operator_of infix_operators.Or = either
