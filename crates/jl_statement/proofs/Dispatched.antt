-- Statements by their kinds.
use Rattle.std.proofs.Common.{◌≡◌, List, ap, sym, subst, ◌∙◌}
use Rattle.jl_text.specs.declared.span.Span.{Span}
use Rattle.jl_ast.specs.Tree as tree
use Rattle.jl_ast.specs.Tree.{Text, Tree}
use Rattle.jl_ast.specs.View.{view_statement, view_statement_kind}
use Rattle.jl_ast.specs.declared.tree.Stmt.{Stmt}
use Rattle.jl_ast.specs.declared.tree.StmtKind.{StmtKind}
use Rattle.jl_ast.proofs.Views.{statement_placed}
use Rattle.jl_state.specs.Rest.{RefinesStatement}
use Rattle.jl_state.specs.Trees.{plain}
use Rattle.jl_state.specs.Words.{table_of}
use Rattle.jl_state.specs.declared.act.Act.{Act}
use Rattle.jl_state.specs.declared.frame.Here.{Here}
use Rattle.jl_state.specs.declared.state.State.{State}
use Rattle.jl_statement.specs.inner.Beginnings.{begin}

-- a statement is begun as its kind is
pub of_kind : (s : State) (t : Stmt) (k : StmtKind) (x : Tree Span tree.stmt) (labels : List Text) (here : Here)
    (u : State) (a : Act) → t.kind ≡ k → view_statement_kind k t.span ≡ x
    → RefinesStatement s (begin (table_of s.functions) s.calls (plain x) labels here) u a
    → RefinesStatement s (begin (table_of s.functions) s.calls (plain (view_statement t)) labels here) u a
of_kind s t k x labels here u a is seen refines =
    subst (λ y. RefinesStatement s (begin (table_of s.functions) s.calls (plain y) labels here) u a)
    (sym (statement_placed t ∙ ap (λ j. view_statement_kind j t.span) is ∙ seen)) refines
