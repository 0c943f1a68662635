-- What statements are seen as of which a part may be left out.
use Rattle.std.proofs.Common.{◌≡◌, List, rules}
use Rattle.std.specs.Prelude.{Some, None}
use Rattle.jl_text.specs.declared.span.Span.{Span}
use Rattle.jl_ast.specs.declared.tree.Expr.{Expr as CodeExpr}
use Rattle.jl_ast.specs.declared.tree.Ident.{Ident as CodeIdent}
use Rattle.jl_ast.specs.declared.tree.Stmt.{Stmt as CodeStmt}
use Rattle.jl_ast.specs.declared.tree.StmtKind as kind
use Rattle.jl_ast.specs.Tree as tree
use Rattle.jl_ast.specs.View.{view_expression, view_ident, view_statement_kind, view_statements}
use Rattle.jl_ast.proofs.Views.{nodes}

pub if_seen : (t : CodeExpr) (ws : List CodeStmt) (s : Span)
    → view_statement_kind (kind.If t ws None) s ≡ tree.if_else (view_expression t) (view_statements ws) tree.absent s
if_seen t ws s = search (rules, nodes)

pub if_else_seen : (t : CodeExpr) (ws us : List CodeStmt) (s : Span)
    → view_statement_kind (kind.If t ws (Some us)) s
    ≡ tree.if_else (view_expression t) (view_statements ws) (tree.present (tree.branch_of (view_statements us))) s
if_else_seen t ws us s = search (rules, nodes)

pub return_seen : (t : CodeExpr) (s : Span)
    → view_statement_kind (kind.Return (Some t)) s ≡ tree.return (tree.present (view_expression t)) s
return_seen t s = search (rules, nodes)

pub try_catch_seen : (ws : List CodeStmt) (h : CodeIdent × List CodeStmt) (s : Span)
    → view_statement_kind (kind.Try ws (Some h) None) s
    ≡ tree.try (view_statements ws) (tree.present (tree.catch (view_ident h.0) (view_statements h.1))) tree.absent s
try_catch_seen ws h s = search (rules, nodes)

pub try_finally_seen : (ws us : List CodeStmt) (s : Span)
    → view_statement_kind (kind.Try ws None (Some us)) s
    ≡ tree.try (view_statements ws) tree.absent (tree.present (tree.branch_of (view_statements us))) s
try_finally_seen ws us s = search (rules, nodes)

pub try_both_seen : (ws : List CodeStmt) (h : CodeIdent × List CodeStmt) (us : List CodeStmt) (s : Span)
    → view_statement_kind (kind.Try ws (Some h) (Some us)) s
    ≡ tree.try (view_statements ws) (tree.present (tree.catch (view_ident h.0) (view_statements h.1)))
    (tree.present (tree.branch_of (view_statements us))) s
try_both_seen ws h us s = search (rules, nodes)

pub ruleset seen = (if_seen, if_else_seen, return_seen, try_catch_seen, try_finally_seen, try_both_seen)
