-- How lists, and parts that may not be there, are seen without the places of their nodes.
use Rattle.std.proofs.Common.{◌≡◌, ℕ, Bool, [], ◌∷◌, ◌++◌, List, None, Option, Some, map, option_map, ap, refl, ◌∙◌}
use Rattle.jl_text.specs.declared.span.Span.{Span}
use Rattle.jl_ast.specs.Spans.{ident, map_forest, map_optional, tree_without_spans}
use Rattle.jl_ast.specs.Tree as tree
use Rattle.jl_ast.specs.Tree.{forest, Sort, Tree}
use Rattle.jl_ast.specs.View.{view_branch, view_case, view_cases, view_catch, view_declarators, view_entries}
use Rattle.jl_ast.specs.View.{view_entry, view_expression, view_expressions, view_function, view_functions, view_ident}
use Rattle.jl_ast.specs.View.{view_items, view_optional, view_statement, view_statements, declarator}
use Rattle.jl_ast.specs.declared.tree.Case.{Case}
use Rattle.jl_ast.specs.declared.tree.Entry.{Entry}
use Rattle.jl_ast.specs.declared.tree.Expr.{Expr}
use Rattle.jl_ast.specs.declared.tree.Function.{Function}
use Rattle.jl_ast.specs.declared.tree.Ident.{Ident}
use Rattle.jl_ast.specs.declared.tree.Stmt.{Stmt}
use Rattle.jl_simulation.specs.HookCalls.{and_last, Woven}
use Rattle.jl_weave.specs.inner.Bare.{bare_all, bare_branch, bare_case, bare_cases, bare_catch, bare_declarator}
use Rattle.jl_weave.specs.inner.Bare.{bare_declarators, bare_entries, bare_entry, bare_expression, bare_expressions}
use Rattle.jl_weave.specs.inner.Bare.{bare_function, bare_functions, bare_ident, bare_items, bare_optional}
use Rattle.jl_weave.specs.inner.Bare.{bare_statement, bare_statements}

bare_list : {A : Type 0} {x : Sort} (view : A → Tree Span x) (bare : A → Woven x)
    → ((a : A) → tree_without_spans (view a) ≡ bare a) → (l : List A)
    → map_forest (λ s. tt) (forest (map view l)) ≡ bare_all bare l
bare_list view bare same [] = refl
bare_list view bare same (a ∷ l) =
    ap (λ t. tree.more t (map_forest (λ s. tt) (forest (map view l)))) (same a)
    ∙ ap (tree.more (bare a)) (bare_list view bare same l)

pub expressions_bare : (l : List Expr) → map_forest (λ s. tt) (view_expressions l) ≡ bare_expressions l
unfolding bare_expression
expressions_bare l = bare_list view_expression bare_expression (λ e. refl) l

pub entries_bare : (l : List Entry) → map_forest (λ s. tt) (view_entries l) ≡ bare_entries l
unfolding bare_entry
entries_bare l = bare_list view_entry bare_entry (λ e. refl) l

pub functions_bare : (l : List Function) → map_forest (λ s. tt) (view_functions l) ≡ bare_functions l
unfolding bare_function
functions_bare l = bare_list view_function bare_function (λ e. refl) l

pub statements_bare : (l : List Stmt) → map_forest (λ s. tt) (view_statements l) ≡ bare_statements l
unfolding bare_statement
statements_bare l = bare_list view_statement bare_statement (λ e. refl) l

pub cases_bare : (l : List Case) → map_forest (λ s. tt) (view_cases l) ≡ bare_cases l
unfolding bare_case
cases_bare l = bare_list view_case bare_case (λ e. refl) l

pub optional_bare : (e : Option Expr) → map_optional (λ s. tt) (view_optional e) ≡ bare_optional e
unfolding bare_expression
optional_bare None = refl
optional_bare (Some e) = refl

pub items_bare : (l : List (Option Expr)) → map_forest (λ s. tt) (view_items l) ≡ bare_items l
unfolding bare_expression
items_bare [] = refl
items_bare (None ∷ l) = ap (tree.more tree.hole) (items_bare l)
items_bare (Some e ∷ l) = ap (tree.more (tree.filled (bare_expression e))) (items_bare l)

declarator_bare : (d : Ident × Option Expr)
    → tree_without_spans (declarator (d.0, option_map view_expression d.1)) ≡ bare_declarator d
declarator_bare d = ap (tree.declarator (bare_ident d.0)) (optional_bare d.1)

pub declarators_bare : (l : List (Ident × Option Expr))
    → map_forest (λ s. tt) (view_declarators l) ≡ bare_declarators l
declarators_bare [] = refl
declarators_bare (d ∷ l) =
    ap (λ t. tree.more t (map_forest (λ s. tt) (view_declarators l))) (declarator_bare d)
    ∙ ap (tree.more (bare_declarator d)) (declarators_bare l)

pub branch_bare : (b : Option (List Stmt)) → map_optional (λ s. tt) (view_branch b) ≡ bare_branch b
branch_bare None = refl
branch_bare (Some l) = ap (λ l. tree.present (tree.branch_of l)) (statements_bare l)

pub catch_bare : (h : Option (Ident × List Stmt)) → map_optional (λ s. tt) (view_catch h) ≡ bare_catch h
catch_bare None = refl
catch_bare (Some c) = ap (λ l. tree.present (tree.catch (bare_ident c.0) l)) (statements_bare c.1)

pub name_bare : (x : Option Ident) → option_map (ident (λ s. tt)) (option_map view_ident x) ≡ option_map bare_ident x
name_bare None = refl
name_bare (Some x) = refl

pub names_bare : (l : List Ident) → map (ident (λ s. tt)) (map view_ident l) ≡ map bare_ident l
names_bare [] = refl
names_bare (x ∷ l) = ap (λ r. bare_ident x ∷ r) (names_bare l)

-- statements with one more at their end
pub statements_and_last : (l : List Stmt) (t : Stmt)
    → bare_statements (l ++ t ∷ []) ≡ and_last (bare_statements l) (bare_statement t)
statements_and_last [] t = refl
statements_and_last (u ∷ l) t = ap (tree.more (bare_statement u)) (statements_and_last l t)

pub ruleset lists = (
  expressions_bare,
  entries_bare,
  functions_bare,
  statements_bare,
  cases_bare,
  optional_bare,
  items_bare,
  declarators_bare,
  branch_bare,
  catch_bare,
  name_bare,
  names_bare,
)

-- a function of parts that are seen already
pub function_bare : (number : ℕ) (strict : Bool) (name : Option Ident) (params : List Ident) (functions : List Function)
    (statements : List Stmt) (span : Span)
    → tree_without_spans (tree.function number (option_map view_ident name) (map view_ident params)
    (tree.body strict (view_functions functions) (view_statements statements)) span)
    ≡ tree.function number (option_map bare_ident name) (map bare_ident params)
    (tree.body strict (bare_functions functions) (bare_statements statements)) tt
function_bare number strict name params functions statements span =
    ap (λ x. tree.function number x (map (ident (λ s. tt)) (map view_ident params))
    (tree.body strict (map_forest (λ s. tt) (view_functions functions))
    (map_forest (λ s. tt) (view_statements statements))) tt) (name_bare name)
    ∙ ap (λ l. tree.function number (option_map bare_ident name) l
    (tree.body strict (map_forest (λ s. tt) (view_functions functions))
    (map_forest (λ s. tt) (view_statements statements))) tt) (names_bare params)
    ∙ ap (λ l. tree.function number (option_map bare_ident name) (map bare_ident params)
    (tree.body strict l (map_forest (λ s. tt) (view_statements statements))) tt) (functions_bare functions)
    ∙ ap (λ l. tree.function number (option_map bare_ident name) (map bare_ident params)
    (tree.body strict (bare_functions functions) l) tt) (statements_bare statements)
