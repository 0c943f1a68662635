-- How high a list of parts is with one more.
use Rattle.std.proofs.Common.{◌≡◌, ℕ, suc, ◌≤◌, ◌<◌, max, ap, sym, subst, ◌∙◌, List, [], ◌∷◌, ◌++◌, arith}
use Rattle.std.specs.Prelude.{Option, Some, None, Err, IsErr, IsErrAnd, Ok, Result}
use Rattle.jl_text.specs.declared.span.Span.{Span}
use Rattle.jl_ast.specs.declared.tree.Case.{Case as CodeCase}
use Rattle.jl_ast.specs.declared.tree.Entry.{Entry as CodeEntry}
use Rattle.jl_ast.specs.declared.tree.Expr.{Expr as CodeExpr}
use Rattle.jl_ast.specs.declared.tree.Function.{Function as CodeFunction}
use Rattle.jl_ast.specs.declared.tree.Ident.{Ident as CodeIdent}
use Rattle.jl_ast.specs.declared.tree.Stmt.{Stmt as CodeStmt}
use Rattle.jl_ast.specs.Height.{height, forest_height}
use Rattle.jl_ast.specs.Tree.{Tree, Forest}
use Rattle.jl_ast.specs.Tree as tree
use Rattle.jl_ast.specs.View.{view_case, view_cases, view_declarator, view_declarators, view_entries, view_entry}
use Rattle.jl_ast.specs.View.{view_expression, view_expressions, view_function, view_functions, view_items}
use Rattle.jl_ast.specs.View.{view_statement, view_statements}
use Rattle.std.proofs.lemmas.Bool.{le-leb, lt-leb}
use Rattle.jl_grammar.specs.Reader.{succeed, node}
use Rattle.jl_parse.specs.declared.refusal.Stop.{Stop}
use Rattle.jl_parse.specs.declared.refusal.Stop.TheVariants as stops
use Rattle.jl_parse.specs.inner.Steps.{append, Gives, Refuses}
use Rattle.jl_parse.proofs.Lists.{cases_push, declarators_push, entries_push, functions_push, statements_push}
use Rattle.jl_parse.proofs.Turns.{expressions_push, hole_push, item_push}

one_more : {x : tree.Sort} (a : Forest Span x) (t : Tree Span x)
    → forest_height (append a (tree.more t tree.end)) ≡ max (forest_height a) (height t)
one_more tree.end t = omega arith
one_more (tree.more u a) t = let h = one_more a t in omega arith

pub argument_higher : (l : List CodeExpr) (e : CodeExpr)
    → forest_height (view_expressions (l ++ (e ∷ [])))
    ≡ max (forest_height (view_expressions l)) (height (view_expression e))
argument_higher l e = ap forest_height (expressions_push l e) ∙ one_more (view_expressions l) (view_expression e)

pub hole_higher : (l : List (Option CodeExpr)) → forest_height (view_items (l ++ (None ∷ [])))
    ≡ forest_height (view_items l)
hole_higher l =
    let h = one_more (view_items l) tree.hole in let e = ap forest_height (hole_push l) in omega arith

pub item_higher : (l : List (Option CodeExpr)) (e : CodeExpr)
    → forest_height (view_items (l ++ (Some e ∷ []))) ≡ max (forest_height (view_items l)) (height (view_expression e))
item_higher l e = ap forest_height (item_push l e) ∙ one_more (view_items l) (tree.filled (view_expression e))

pub entry_higher : (l : List CodeEntry) (e : CodeEntry)
    → forest_height (view_entries (l ++ (e ∷ []))) ≡ max (forest_height (view_entries l)) (height (view_entry e))
entry_higher l e = ap forest_height (entries_push l e) ∙ one_more (view_entries l) (view_entry e)

pub statement_higher : (l : List CodeStmt) (e : CodeStmt)
    → forest_height (view_statements (l ++ (e ∷ [])))
    ≡ max (forest_height (view_statements l)) (height (view_statement e))
statement_higher l e = ap forest_height (statements_push l e) ∙ one_more (view_statements l) (view_statement e)

pub function_higher : (l : List CodeFunction) (e : CodeFunction)
    → forest_height (view_functions (l ++ (e ∷ []))) ≡ max (forest_height (view_functions l)) (height (view_function e))
function_higher l e = ap forest_height (functions_push l e) ∙ one_more (view_functions l) (view_function e)

pub declarator_higher : (l : List (CodeIdent × Option CodeExpr)) (e : CodeIdent × Option CodeExpr)
    → forest_height (view_declarators (l ++ (e ∷ [])))
    ≡ max (forest_height (view_declarators l)) (height (view_declarator e))
declarator_higher l e = ap forest_height (declarators_push l e) ∙ one_more (view_declarators l) (view_declarator e)

pub case_higher : (l : List CodeCase) (e : CodeCase)
    → forest_height (view_cases (l ++ (e ∷ []))) ≡ max (forest_height (view_cases l)) (height (view_case e))
case_higher l e = ap forest_height (cases_push l e) ∙ one_more (view_cases l) (view_case e)

-- whether a node of which the parts are so high is made

pub made_low : {x : tree.Sort} {most h : ℕ} (t : Tree Span x) (j : ℕ) → height t ≡ h → h ≤ suc most
    → node most t j succeed ≡ Some (t, j)
unfolding node
made_low {x} {most} {h} t j e l = rw (le-leb (height t) (suc most) (omega arith), node)

pub made_high : {x : tree.Sort} (most h : ℕ) (t : Tree Span x) (j : ℕ) → height t ≡ suc h → most < h
    → node most t j succeed ≡ None
unfolding node
made_high most h t j e l = rw (lt-leb (height t) (suc most) (omega arith), node)

-- a node is refused for its height
pub refused : {X : Type 0} {x : tree.Sort} (view : X → Tree Span x × ℕ) (most h j : ℕ) (t : Tree Span x)
    (r : Result X Stop) (stop : Stop) → IsErr r × IsErrAnd r (λ e. e ≡ stop) → stop ≡ stops.At j → most < h
    → height t ≡ suc h → Gives view r (node most t j succeed)
refused view most h j t (Ok y) stop same is above high = absurd same.1
refused view most h j t (Err e) stop same is above high =
    subst (λ s. Refuses s (node most t j succeed)) (sym (same.1 ∙ is)) (made_high most h t j high above)
