use Rattle.std.proofs.Common.{◌≡◌, ◌∙◌, ap, rules, List, Option}
use Rattle.jl_ast.specs.Spans.{map_forest, tree_without_spans}
use Rattle.jl_ast.specs.Tree as tree
use Rattle.jl_ast.specs.View.{view_case, view_optional, view_statements}
use Rattle.jl_ast.specs.declared.tree.Case.{roll-Case}
use Rattle.jl_ast.specs.declared.tree.Entry.TheViews.{out-roll-Case}
use Rattle.jl_ast.specs.declared.tree.Expr.{Expr}
use Rattle.jl_ast.specs.declared.tree.Stmt.{Stmt}
use Rattle.jl_ast.proofs.Views.{case_is}
use Rattle.jl_weave.specs.inner.Bare.{bare_case, bare_optional}
use Rattle.jl_weave.proofs.ListViews.{optional_bare, statements_bare}
use Rattle.jl_weave.proofs.statement_nodes.case.Goals as goal

-- a clause of the code as a tree
case_seen : (test : Option Expr) (body : List Stmt)
    → view_case (roll-Case (record { test = test; body = body }))
    ≡ tree.case (view_optional test) (view_statements body)
case_seen test body = search (rules, case_is, out-roll-Case)

pub returns : goal.returns
unfolding bare_case
returns c =
    ap tree_without_spans (case_seen c.args.test c.args.body)
    ∙ ap (λ t. tree.case t (map_forest (λ s. tt) (view_statements c.args.body))) (optional_bare c.args.test)
    ∙ ap (tree.case (bare_optional c.args.test)) (statements_bare c.args.body)
