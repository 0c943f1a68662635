-- What a statement is, by its kind, and what is known of parts that may not be there.
use Rattle.std.proofs.Common.{◌≡◌, ◌∙◌, ap, if◌then◌else◌, refl, Bool, None, Option, Some}
use Rattle.std.specs.Option.{is_some}
use Rattle.jl_text.specs.declared.span.Span.{Span}
use Rattle.jl_ast.specs.Tree as tree
use Rattle.jl_ast.specs.Tree.{Tree}
use Rattle.jl_ast.specs.View.{view_optional, view_statement, view_statement_kind}
use Rattle.jl_ast.specs.declared.tree.Expr.{Expr}
use Rattle.jl_ast.specs.declared.tree.Stmt.{Stmt}
use Rattle.jl_ast.specs.declared.tree.StmtKind.{StmtKind}
use Rattle.jl_ast.proofs.Views.{statement_placed}
use Rattle.jl_op.specs.Ids.{one_if_present}

pub seen : (s : Stmt) {k : StmtKind} {t : Tree Span tree.stmt} → s.kind ≡ k → view_statement_kind k s.span ≡ t →
    view_statement s ≡ t
seen s e f = statement_placed s ∙ ap (λ k. view_statement_kind k s.span) e ∙ f

-- the id that is taken for an expression that is there
one_if_some : (e : Option Expr) → (if is_some e then 1 else 0) ≡ one_if_present (view_optional e)
one_if_some None = refl
one_if_some (Some e) = refl

pub one_if_there : (e : Option Expr) {b : Bool} → b ≡ is_some e →
    (if b then 1 else 0) ≡ one_if_present (view_optional e)
one_if_there e i = ap (λ b. if b then 1 else 0) i ∙ one_if_some e
