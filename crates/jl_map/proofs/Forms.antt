-- The rows of a node, of those of its parts.
use Rattle.std.proofs.Common.{◌≡◌, ◌∙◌, ◌++◌, ◌∷◌, [], ap, append-nil, append_assoc, arith, refl, rules, sym, List}
use Rattle.std.proofs.Common.{Option, Some, Result, OnOk}
use Rattle.std.proofs.lemmas.Result.{on_ok_weaker}
use Rattle.jl_text.specs.declared.span.Span.{Span}
use Rattle.jl_ast.specs.Spans.{place}
use Rattle.jl_ast.specs.Tree as tree
use Rattle.jl_ast.specs.Tree.{Forest, OptionalTree, Sort, Tree}
use Rattle.jl_ast.specs.View.{view_expression, view_ident, view_optional}
use Rattle.jl_ast.specs.declared.tree.Expr.{Expr}
use Rattle.jl_ast.specs.declared.tree.ExprKind.{the_lemmas}
use Rattle.jl_ast.specs.declared.tree.Ident.{Ident}
use Rattle.jl_ast.proofs.Views.{nodes}
use Rattle.jl_op.specs.IdMap.{entries, forest_entries, optional_entries, place_of}
use Rattle.jl_op.specs.Map.{MapRow}
use Rattle.jl_op.specs.declared.kind.OpKind.TheVariants as kind
use Rattle.jl_map.specs.inner.Rows.{caught_entries, tested_entries}

pub place_is : (e : Expr) → place (view_expression e) ≡ e.span
place_is e = first_of (grind (arith, nodes), search (rules, the_lemmas, nodes), grind (arith, nodes, the_lemmas))

-- two parts, one after the other
pub then_part : (old mid new a b : List MapRow) → mid ≡ old ++ a → new ≡ mid ++ b → new ≡ old ++ (a ++ b)
then_part old mid new a b m n = n ∙ ap (λ l. l ++ b) m ∙ append_assoc old a b

pub last_part : {T E : Type 0} (r : Result T E) (old mid new a b : List MapRow) → mid ≡ old ++ a →
    OnOk r (new ≡ mid ++ b) → OnOk r (new ≡ old ++ (a ++ b))
last_part r old mid new a b m = on_ok_weaker r (λ n. then_part old mid new a b m n)

-- rows that are known to be others
pub same_rows : {T E : Type 0} (r : Result T E) (old new l m : List MapRow) → l ≡ m → OnOk r (new ≡ old ++ l) →
    OnOk r (new ≡ old ++ m)
same_rows r old new l m e = on_ok_weaker r (λ n. n ∙ ap (λ l. old ++ l) e)

-- the rows of a tree that is known to be another
pub placed : {T E : Type 0} (r : Result T E) (old new : List MapRow) {x : Sort} (t u : Tree Span x) → t ≡ u →
    OnOk r (new ≡ old ++ entries place_of u) → OnOk r (new ≡ old ++ entries place_of t)
placed r old new t u e =
    same_rows r old new (entries place_of u) (entries place_of t) (ap (λ v. entries place_of v) (sym e))

-- an initialiser and a value that are there
pub initialiser_there : {T E : Type 0} (r : Result T E) (old new : List MapRow) (x : Ident) (o : Option Expr)
    (e : Expr) → o ≡ Some e → OnOk r (new ≡ old ++ (kind.Write, x.span) ∷ entries place_of (view_expression e)) →
    OnOk r (new ≡ old ++ entries place_of (tree.declarator (view_ident x) (view_optional o)))
initialiser_there r old new x o e there =
    same_rows r old new ((kind.Write, x.span) ∷ entries place_of (view_expression e))
    (entries place_of (tree.declarator (view_ident x) (view_optional o)))
    (ap (λ p. entries place_of (tree.declarator (view_ident x) (view_optional p))) (sym there))

pub value_there : {T E : Type 0} (r : Result T E) (old new : List MapRow) (o : Option Expr) (e : Expr) (s : Span) →
    o ≡ Some e → OnOk r (new ≡ old ++ (kind.Return, s) ∷ entries place_of (view_expression e)) →
    OnOk r (new ≡ old ++ entries place_of (tree.return (view_optional o) s))
value_there r old new o e s there =
    same_rows r old new ((kind.Return, s) ∷ entries place_of (view_expression e))
    (entries place_of (tree.return (view_optional o) s))
    (ap (λ p. entries place_of (tree.return (view_optional p) s)) (sym there))

-- a test whose row comes before those of a body, which come before the test's own
pub do_while_is : (e : Expr) (l : Forest Span tree.stmt) (s : Span) →
    ((kind.Conditional, e.span) ∷ []) ++ forest_entries place_of l ++ entries place_of (view_expression e)
    ≡ entries place_of (tree.do_while l (view_expression e) s)
do_while_is e l s =
    ap (λ p. (kind.Conditional, p) ∷ (forest_entries place_of l ++ entries place_of (view_expression e)))
    (sym (place_is e))

-- a `for` and a `try`, with the rows for themselves in the words of the code
pub for_is : (i : Tree Span tree.init) (e u : OptionalTree Span tree.expr) (l : Forest Span tree.stmt) (s : Span) →
    tested_entries e ++ entries place_of i ++ optional_entries place_of e ++ optional_entries place_of u
    ++ forest_entries place_of l ≡ entries place_of (tree.for i e u l s)
for_is i tree.absent u l s = refl
for_is i (tree.present e) u l s = refl

pub try_is : (l : Forest Span tree.stmt) (h : OptionalTree Span tree.handler) (f : OptionalTree Span tree.branch)
    (s : Span) → caught_entries h ++ forest_entries place_of l ++ optional_entries place_of h
    ++ optional_entries place_of f ≡ entries place_of (tree.try l h f s)
try_is l tree.absent f s = ap (λ r. r ++ optional_entries place_of f) (append-nil (forest_entries place_of l))
try_is l (tree.present (tree.catch x h)) f s = refl
