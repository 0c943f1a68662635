-- How the lists of a tree are seen.
use Rattle.std.proofs.Common.{◌≡◌, ◌∙◌, ap, ℕ, ◌+◌, Option, None, Some, option_map, refl, sym}
use Rattle.jl_text.specs.declared.span.Span.{Span}
use Rattle.jl_ast.specs.declared.tree.Case.{Case}
use Rattle.jl_ast.specs.declared.tree.Entry.{Entry}
use Rattle.jl_ast.specs.declared.tree.Expr.{Expr}
use Rattle.jl_ast.specs.declared.tree.Function.{Function}
use Rattle.jl_ast.specs.declared.tree.Ident.{Ident}
use Rattle.jl_ast.specs.declared.tree.Stmt.{Stmt}
use Rattle.jl_ast.specs.Tree.{absent, clause, decl, entry, expr, filled, func, hole, item, present, stmt}
use Rattle.jl_ast.specs.Tree.{OptionalTree, Tree}
use Rattle.jl_ast.specs.View.{view_case, view_cases, view_declarator, view_declarators, view_entries, view_entry}
use Rattle.jl_ast.specs.View.{view_expression, view_expressions, view_function, view_functions, view_items}
use Rattle.jl_ast.specs.View.{view_optional, view_statement, view_statements}
use Rattle.jl_ast.specs.View as views
use Rattle.jl_op.specs.Chosen.{Kinds}
use Rattle.jl_op.specs.Ids.{id_count, optional_id_count, optional_with_ids, with_ids}
use Rattle.jl_simulation.specs.Weaving.{weave, woven_optional}
use Rattle.jl_weave.specs.inner.Bare.{bare_case, bare_declarator, bare_entry, bare_expression, bare_function}
use Rattle.jl_weave.specs.inner.Bare.{bare_item, bare_optional, bare_statement}
use Rattle.jl_weave.proofs.Weaves.{Weaves, WeavesIfPresent}
use Rattle.jl_weave.proofs.Walk.{Seen}

abbrev pub view_item : Option Expr → Tree Span item
view_item e = views.item (option_map view_expression e)

abbrev pub functions : Seen Function func
functions = record { one = view_function; all = view_functions; bare = bare_function; none = refl; next = λ a l. refl }

abbrev pub statements : Seen Stmt stmt
statements =
    record { one = view_statement; all = view_statements; bare = bare_statement; none = refl; next = λ a l. refl }

abbrev pub declarators : Seen (Ident × Option Expr) decl
declarators =
    record { one = view_declarator; all = view_declarators; bare = bare_declarator; none = refl; next = λ a l. refl }

abbrev pub cases : Seen Case clause
cases = record { one = view_case; all = view_cases; bare = bare_case; none = refl; next = λ a l. refl }

abbrev pub items : Seen (Option Expr) item
items = record { one = view_item; all = view_items; bare = bare_item; none = refl; next = λ a l. refl }

abbrev pub entries : Seen Entry entry
entries = record { one = view_entry; all = view_entries; bare = bare_entry; none = refl; next = λ a l. refl }

abbrev pub expressions : Seen Expr expr
expressions =
    record { one = view_expression; all = view_expressions; bare = bare_expression; none = refl; next = λ a l. refl }

-- an item of an array literal is an expression, if there is one
abbrev as_item : {S : Type 0} → OptionalTree S expr → Tree S item
as_item absent = hole
as_item (present t) = filled t

item_is : (b : Option Expr) → bare_item b ≡ as_item (bare_optional b)
item_is None = refl
item_is (Some b) = refl

woven_item : (chosen : Kinds) (a : Option Expr) (n : ℕ) →
    as_item (woven_optional chosen (optional_with_ids n (view_optional a))) ≡ weave chosen (with_ids n (view_item a))
woven_item chosen None n = refl
woven_item chosen (Some a) n = refl

pub item_id_count : (a : Option Expr) → id_count (view_item a) ≡ optional_id_count (view_optional a)
item_id_count None = refl
item_id_count (Some a) = refl

pub item_woven : (chosen : Kinds) (a b : Option Expr) (n next : ℕ) →
    WeavesIfPresent chosen (view_optional a) n (bare_optional b) next →
    Weaves chosen (view_item a) n (bare_item b) next
item_woven chosen a b n next w = record {
  is = item_is b ∙ ap as_item w.is ∙ woven_item chosen a n;
  counted = w.counted ∙ ap (λ k. n + k) (sym (item_id_count a));
}
