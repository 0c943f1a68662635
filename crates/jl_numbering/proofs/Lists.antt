-- How the lists of a tree are seen.
use Rattle.std.proofs.Common.{◌≡◌, ◌+◌, ℕ, Option, None, Some, ap, option_map, refl}
use Rattle.jl_text.specs.declared.span.Span.{Span}
use Rattle.jl_ast.specs.declared.tree.Case.{Case}
use Rattle.jl_ast.specs.declared.tree.Entry.{Entry}
use Rattle.jl_ast.specs.declared.tree.Expr.{Expr}
use Rattle.jl_ast.specs.declared.tree.Function.{Function}
use Rattle.jl_ast.specs.declared.tree.Ident.{Ident}
use Rattle.jl_ast.specs.declared.tree.Stmt.{Stmt}
use Rattle.jl_ast.specs.Numbering.{functions_in, functions_in_optional, numbered_tree, numbered_optional}
use Rattle.jl_ast.specs.Tree.{Tree, clause, decl, entry, expr, filled, func, hole, item, stmt, OptionalTree, absent}
use Rattle.jl_ast.specs.Tree.{present}
use Rattle.jl_ast.specs.View.{view_expression, view_expressions, view_items, view_entry, view_entries}
use Rattle.jl_ast.specs.View.{view_function, view_functions, view_statement, view_statements, view_declarator}
use Rattle.jl_ast.specs.View.{view_declarators, view_case, view_cases, view_optional}
use Rattle.jl_ast.specs.View as views
use Rattle.jl_numbering.proofs.Walk.{Seen}

abbrev pub view_item : Option Expr → Tree Span item
view_item e = views.item (option_map view_expression e)

abbrev pub functions : Seen Span func Function
functions = record { one = view_function; all = view_functions; none = refl; next = λ a l. refl }

abbrev pub statements : Seen Span stmt Stmt
statements = record { one = view_statement; all = view_statements; none = refl; next = λ a l. refl }

abbrev pub declarators : Seen Span decl (Ident × Option Expr)
declarators = record { one = view_declarator; all = view_declarators; none = refl; next = λ a l. refl }

abbrev pub cases : Seen Span clause Case
cases = record { one = view_case; all = view_cases; none = refl; next = λ a l. refl }

abbrev pub items : Seen Span item (Option Expr)
items = record { one = view_item; all = view_items; none = refl; next = λ a l. refl }

abbrev pub entries : Seen Span entry Entry
entries = record { one = view_entry; all = view_entries; none = refl; next = λ a l. refl }

abbrev pub expressions : Seen Span expr Expr
expressions = record { one = view_expression; all = view_expressions; none = refl; next = λ a l. refl }

abbrev as_item : OptionalTree Span expr → Tree Span item
as_item absent = hole
as_item (present t) = filled t

-- an item of an array literal is an expression, if there is one
pub item_numbered : (a b : Option Expr) (n : ℕ) → view_optional b ≡ numbered_optional n (view_optional a) →
    view_item b ≡ numbered_tree n (view_item a)
item_numbered None None n e = ap as_item e
item_numbered None (Some b) n e = ap as_item e
item_numbered (Some a) None n e = ap as_item e
item_numbered (Some a) (Some b) n e = ap as_item e

pub item_counted : (a : Option Expr) (n m : ℕ) → m ≡ n + functions_in_optional (view_optional a) →
    m ≡ n + functions_in (view_item a)
item_counted None n m e = e
item_counted (Some a) n m e = e
