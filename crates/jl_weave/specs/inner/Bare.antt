-- Trees of the code but for the places of their nodes, as woven trees are.
use Rattle.std.specs.Prelude.{[], ◌∷◌, List, None, Option, Some}
use Rattle.jl_ast.specs.Spans.{tree_without_spans}
use Rattle.jl_ast.specs.Tree as tree
use Rattle.jl_ast.specs.Tree.{Forest, OptionalTree, Sort}
use Rattle.jl_ast.specs.View.{view_case, view_entry, view_expression, view_function, view_init, view_statement}
use Rattle.jl_ast.specs.View.{view_target}
use Rattle.jl_ast.specs.declared.tree.Case.{Case}
use Rattle.jl_ast.specs.declared.tree.Entry.{Entry}
use Rattle.jl_ast.specs.declared.tree.Expr.{Expr}
use Rattle.jl_ast.specs.declared.tree.ForInit.{ForInit}
use Rattle.jl_ast.specs.declared.tree.Function.{Function}
use Rattle.jl_ast.specs.declared.tree.Ident.{Ident}
use Rattle.jl_ast.specs.declared.tree.Stmt.{Stmt}
use Rattle.jl_ast.specs.declared.tree.Target.{Target}
use Rattle.jl_simulation.specs.HookCalls.{Woven}

unfoldable pub bare_expression : Expr → Woven tree.expr
bare_expression e = tree_without_spans (view_expression e)

unfoldable pub bare_target : Target → Woven tree.target
bare_target t = tree_without_spans (view_target t)

unfoldable pub bare_entry : Entry → Woven tree.entry
bare_entry p = tree_without_spans (view_entry p)

unfoldable pub bare_function : Function → Woven tree.func
bare_function f = tree_without_spans (view_function f)

unfoldable pub bare_statement : Stmt → Woven tree.stmt
bare_statement s = tree_without_spans (view_statement s)

unfoldable pub bare_init : ForInit → Woven tree.init
bare_init i = tree_without_spans (view_init i)

unfoldable pub bare_case : Case → Woven tree.clause
bare_case c = tree_without_spans (view_case c)

-- a name without its place
abbrev pub without_place : {S : Type 0} → tree.Ident S → tree.Ident (Unit {0})
without_place x = record { text = x.text; at = tt }

abbrev pub bare_ident : Ident → tree.Ident (Unit {0})
bare_ident x = record { text = x.text; at = tt }

-- a list as a forest
abbrev pub bare_all : {A : Type 0} {x : Sort} → (A → Woven x) → List A → Forest (Unit {0}) x
bare_all bare [] = tree.end
bare_all bare (a ∷ l) = tree.more (bare a) (bare_all bare l)

abbrev pub bare_expressions : List Expr → Forest (Unit {0}) tree.expr
bare_expressions l = bare_all bare_expression l

abbrev pub bare_entries : List Entry → Forest (Unit {0}) tree.entry
bare_entries l = bare_all bare_entry l

abbrev pub bare_functions : List Function → Forest (Unit {0}) tree.func
bare_functions l = bare_all bare_function l

abbrev pub bare_statements : List Stmt → Forest (Unit {0}) tree.stmt
bare_statements l = bare_all bare_statement l

abbrev pub bare_cases : List Case → Forest (Unit {0}) tree.clause
bare_cases l = bare_all bare_case l

-- what is there or not
abbrev pub bare_optional : Option Expr → OptionalTree (Unit {0}) tree.expr
bare_optional None = tree.absent
bare_optional (Some e) = tree.present (bare_expression e)

abbrev pub bare_item : Option Expr → Woven tree.item
bare_item None = tree.hole
bare_item (Some e) = tree.filled (bare_expression e)

abbrev pub bare_items : List (Option Expr) → Forest (Unit {0}) tree.item
bare_items l = bare_all bare_item l

abbrev pub bare_declarator : Ident × Option Expr → Woven tree.decl
bare_declarator d = tree.declarator (bare_ident d.0) (bare_optional d.1)

abbrev pub bare_declarators : List (Ident × Option Expr) → Forest (Unit {0}) tree.decl
bare_declarators l = bare_all bare_declarator l

abbrev pub bare_branch : Option (List Stmt) → OptionalTree (Unit {0}) tree.branch
bare_branch None = tree.absent
bare_branch (Some l) = tree.present (tree.branch_of (bare_statements l))

abbrev pub bare_catch : Option (Ident × List Stmt) → OptionalTree (Unit {0}) tree.handler
bare_catch None = tree.absent
bare_catch (Some c) = tree.present (tree.catch (bare_ident c.0) (bare_statements c.1))
