-- What a node is once the functions of its boxed parts have their numbers.
use Rattle.std.proofs.Common.{◌≡◌, ◌+◌, ℕ, Bool, List, Option, ap, ◌∙◌}
use Rattle.std.specs.Box.{with_value}
use Rattle.std.specs.Global.{Global}
use Rattle.std.specs.declared.boxed.Box.{Box}
use Rattle.jl_text.specs.declared.span.Span.{Span}
use Rattle.jl_ast.specs.declared.ops.BinOp.{BinOp}
use Rattle.jl_ast.specs.declared.ops.UnOp.{UnOp}
use Rattle.jl_ast.specs.declared.tree.Expr.{Expr}
use Rattle.jl_ast.specs.declared.tree.ExprKind as expression
use Rattle.jl_ast.specs.declared.tree.Function.{Function}
use Rattle.jl_ast.specs.declared.tree.Ident.{Ident}
use Rattle.jl_ast.specs.declared.tree.Stmt.{Stmt}
use Rattle.jl_ast.specs.declared.tree.StmtKind as statement
use Rattle.jl_ast.specs.declared.tree.Target.{Target}
use Rattle.jl_ast.specs.Numbering.{functions_in, numbered_forest, numbered_tree}
use Rattle.jl_ast.specs.Tree.{Sort, Text, Tree}
use Rattle.jl_ast.specs.View.{view_expression, view_expressions, view_function, view_statement, view_target}
use Rattle.jl_ast.proofs.Views.{expression_placed, statement_placed, statement_Labelled}
use Rattle.jl_ast.proofs.Views.{expression_Function, expression_Dot, expression_Index, expression_Call}
use Rattle.jl_ast.proofs.Views.{expression_New}
use Rattle.jl_ast.proofs.Views.{expression_Unary, expression_Update, expression_Binary, expression_And, expression_Or}
use Rattle.jl_ast.proofs.Views.{expression_Comma, expression_Cond, expression_Assign}

-- the part a became b, with its functions numbered from n on, and m is the next number
pub record Walked {A : Type 0} {x : Sort} (view : A → Tree Span x) (a b : A) (n m : ℕ) : Type 0 where
  pub numbered : view b ≡ numbered_tree n (view a)
  pub counted : m ≡ n + functions_in (view a)

-- the part c that the box p lent, which is the box o
pub boxed : {A : Type 0} {x : Sort} (view : A → Tree Span x) (o p : Box A Global) (c b : A) (n m : ℕ) →
    p ≡ o → c ≡ p.value → view b ≡ numbered_tree n (view c) → m ≡ n + functions_in (view c) →
    Walked view o.value b n m
boxed {A} view o p c b n m i e f g =
    let h : c ≡ o.value = e ∙ ap (λ (q : Box A Global). q.value) i in
    record {
      numbered = f ∙ ap (λ d. numbered_tree n (view d)) h;
      counted = g ∙ ap (λ d. n + functions_in (view d)) h;
    }

-- the expressions r that were numbered, which are the list l
pub listed : (l r b : List Expr) (n : ℕ) → r ≡ l → view_expressions b ≡ numbered_forest n (view_expressions r) →
    view_expressions b ≡ numbered_forest n (view_expressions l)
listed l r b n i e = e ∙ ap (λ d. numbered_forest n (view_expressions d)) i

pub function_numbered : (e e' : Expr) (f : Box Function Global) (f' : Function) (n m : ℕ) →
    e.kind ≡ expression.Function f → e'.kind ≡ expression.Function (with_value f f') → e'.span ≡ e.span →
    Walked view_function f.value f' n m →
    view_expression e' ≡ numbered_tree n (view_expression e)
function_numbered e e' f f' n m i j s w = cc (
  expression_placed e,
  expression_placed e',
  expression_Function f e.span,
  expression_Function (with_value f f') e.span,
  w.numbered,
)

pub dot_numbered : (e e' : Expr) (o : Box Expr Global) (k : Text) (o' : Expr) (n m : ℕ) →
    e.kind ≡ expression.Dot o k → e'.kind ≡ expression.Dot (with_value o o') k → e'.span ≡ e.span →
    Walked view_expression o.value o' n m →
    view_expression e' ≡ numbered_tree n (view_expression e)
dot_numbered e e' o k o' n m i j s w = cc (
  expression_placed e,
  expression_placed e',
  expression_Dot o k e.span,
  expression_Dot (with_value o o') k e.span,
  w.numbered,
)

pub index_numbered : (e e' : Expr) (a b : Box Expr Global) (a' b' : Expr) (n m p : ℕ) →
    e.kind ≡ expression.Index a b → e'.kind ≡ expression.Index (with_value a a') (with_value b b') →
    e'.span ≡ e.span →
    Walked view_expression a.value a' n m → Walked view_expression b.value b' m p →
    view_expression e' ≡ numbered_tree n (view_expression e)
index_numbered e e' a b a' b' n m p i j s w x = cc (
  expression_placed e,
  expression_placed e',
  expression_Index a b e.span,
  expression_Index (with_value a a') (with_value b b') e.span,
  w.numbered,
  x.numbered,
  w.counted,
)

pub call_numbered : (e e' : Expr) (f : Box Expr Global) (l : List Expr) (f' : Expr) (l' : List Expr) (n m : ℕ) →
    e.kind ≡ expression.Call f l → e'.kind ≡ expression.Call (with_value f f') l' → e'.span ≡ e.span →
    Walked view_expression f.value f' n m → view_expressions l' ≡ numbered_forest m (view_expressions l) →
    view_expression e' ≡ numbered_tree n (view_expression e)
call_numbered e e' f l f' l' n m i j s w x = cc (
  expression_placed e,
  expression_placed e',
  expression_Call f l e.span,
  expression_Call (with_value f f') l' e.span,
  w.numbered,
  w.counted,
)

pub new_numbered : (e e' : Expr) (f : Box Expr Global) (l : List Expr) (f' : Expr) (l' : List Expr) (n m : ℕ) →
    e.kind ≡ expression.New f l → e'.kind ≡ expression.New (with_value f f') l' → e'.span ≡ e.span →
    Walked view_expression f.value f' n m → view_expressions l' ≡ numbered_forest m (view_expressions l) →
    view_expression e' ≡ numbered_tree n (view_expression e)
new_numbered e e' f l f' l' n m i j s w x = cc (
  expression_placed e,
  expression_placed e',
  expression_New f l e.span,
  expression_New (with_value f f') l' e.span,
  w.numbered,
  w.counted,
)

pub unary_numbered : (e e' : Expr) (o : UnOp) (a : Box Expr Global) (a' : Expr) (n m : ℕ) →
    e.kind ≡ expression.Unary o a → e'.kind ≡ expression.Unary o (with_value a a') → e'.span ≡ e.span →
    Walked view_expression a.value a' n m →
    view_expression e' ≡ numbered_tree n (view_expression e)
unary_numbered e e' o a a' n m i j s w = cc (
  expression_placed e,
  expression_placed e',
  expression_Unary o a e.span,
  expression_Unary o (with_value a a') e.span,
  w.numbered,
)

pub update_numbered : (e e' : Expr) (up prefix : Bool) (a : Box Target Global) (a' : Target) (n m : ℕ) →
    e.kind ≡ expression.Update up prefix a → e'.kind ≡ expression.Update up prefix (with_value a a') →
    e'.span ≡ e.span →
    Walked view_target a.value a' n m →
    view_expression e' ≡ numbered_tree n (view_expression e)
update_numbered e e' up prefix a a' n m i j s w = cc (
  expression_placed e,
  expression_placed e',
  expression_Update up prefix a e.span,
  expression_Update up prefix (with_value a a') e.span,
  w.numbered,
)

pub binary_numbered : (e e' : Expr) (o : BinOp) (a b : Box Expr Global) (a' b' : Expr) (n m p : ℕ) →
    e.kind ≡ expression.Binary o a b → e'.kind ≡ expression.Binary o (with_value a a') (with_value b b') →
    e'.span ≡ e.span →
    Walked view_expression a.value a' n m → Walked view_expression b.value b' m p →
    view_expression e' ≡ numbered_tree n (view_expression e)
binary_numbered e e' o a b a' b' n m p i j s w x = cc (
  expression_placed e,
  expression_placed e',
  expression_Binary o a b e.span,
  expression_Binary o (with_value a a') (with_value b b') e.span,
  w.numbered,
  x.numbered,
  w.counted,
)

pub and_numbered : (e e' : Expr) (a b : Box Expr Global) (a' b' : Expr) (n m p : ℕ) →
    e.kind ≡ expression.And a b → e'.kind ≡ expression.And (with_value a a') (with_value b b') → e'.span ≡ e.span →
    Walked view_expression a.value a' n m → Walked view_expression b.value b' m p →
    view_expression e' ≡ numbered_tree n (view_expression e)
and_numbered e e' a b a' b' n m p i j s w x = cc (
  expression_placed e,
  expression_placed e',
  expression_And a b e.span,
  expression_And (with_value a a') (with_value b b') e.span,
  w.numbered,
  x.numbered,
  w.counted,
)

pub or_numbered : (e e' : Expr) (a b : Box Expr Global) (a' b' : Expr) (n m p : ℕ) →
    e.kind ≡ expression.Or a b → e'.kind ≡ expression.Or (with_value a a') (with_value b b') → e'.span ≡ e.span →
    Walked view_expression a.value a' n m → Walked view_expression b.value b' m p →
    view_expression e' ≡ numbered_tree n (view_expression e)
or_numbered e e' a b a' b' n m p i j s w x = cc (
  expression_placed e,
  expression_placed e',
  expression_Or a b e.span,
  expression_Or (with_value a a') (with_value b b') e.span,
  w.numbered,
  x.numbered,
  w.counted,
)

pub comma_numbered : (e e' : Expr) (a b : Box Expr Global) (a' b' : Expr) (n m p : ℕ) →
    e.kind ≡ expression.Comma a b → e'.kind ≡ expression.Comma (with_value a a') (with_value b b') →
    e'.span ≡ e.span →
    Walked view_expression a.value a' n m → Walked view_expression b.value b' m p →
    view_expression e' ≡ numbered_tree n (view_expression e)
comma_numbered e e' a b a' b' n m p i j s w x = cc (
  expression_placed e,
  expression_placed e',
  expression_Comma a b e.span,
  expression_Comma (with_value a a') (with_value b b') e.span,
  w.numbered,
  x.numbered,
  w.counted,
)

pub conditional_numbered : (e e' : Expr) (a b c : Box Expr Global) (a' b' c' : Expr) (n m p q : ℕ) →
    e.kind ≡ expression.Cond a b c → e'.kind ≡ expression.Cond (with_value a a') (with_value b b')
    (with_value c c') → e'.span ≡ e.span →
    Walked view_expression a.value a' n m → Walked view_expression b.value b' m p →
    Walked view_expression c.value c' p q →
    view_expression e' ≡ numbered_tree n (view_expression e)
conditional_numbered e e' a b c a' b' c' n m p q i j s w x y = cc (
  expression_placed e,
  expression_placed e',
  expression_Cond a b c e.span,
  expression_Cond (with_value a a') (with_value b b') (with_value c c') e.span,
  w.numbered,
  x.numbered,
  y.numbered,
  w.counted,
  x.counted,
)

pub assign_numbered : (e e' : Expr) (o : Option BinOp) (a : Box Target Global) (b : Box Expr Global)
    (a' : Target) (b' : Expr) (n m p : ℕ) →
    e.kind ≡ expression.Assign o a b → e'.kind ≡ expression.Assign o (with_value a a') (with_value b b') →
    e'.span ≡ e.span →
    Walked view_target a.value a' n m → Walked view_expression b.value b' m p →
    view_expression e' ≡ numbered_tree n (view_expression e)
assign_numbered e e' o a b a' b' n m p i j s w x = cc (
  expression_placed e,
  expression_placed e',
  expression_Assign o a b e.span,
  expression_Assign o (with_value a a') (with_value b b') e.span,
  w.numbered,
  x.numbered,
  w.counted,
)

pub labelled_numbered : (s s' : Stmt) (x : Ident) (a : Box Stmt Global) (a' : Stmt) (n m : ℕ) →
    s.kind ≡ statement.Labelled x a → s'.kind ≡ statement.Labelled x (with_value a a') → s'.span ≡ s.span →
    Walked view_statement a.value a' n m →
    view_statement s' ≡ numbered_tree n (view_statement s)
labelled_numbered s s' x a a' n m i j s0 w = cc (
  statement_placed s,
  statement_placed s',
  statement_Labelled x a s.span,
  statement_Labelled x (with_value a a') s.span,
  w.numbered,
)
