-- Expressions and targets by their kinds, and expressions in boxes.
use Rattle.std.proofs.Common.{◌≡◌, ◌∙◌, ap, subst, sym, ℕ}
use Rattle.jl_text.specs.declared.span.Span.{Span}
use Rattle.jl_ast.specs.Tree as tree
use Rattle.jl_ast.specs.Tree.{Tree}
use Rattle.jl_ast.specs.View.{view_expression, view_expression_kind, view_target}
use Rattle.jl_ast.specs.declared.tree.Expr.{Expr}
use Rattle.jl_ast.specs.declared.tree.ExprKind.{ExprKind}
use Rattle.jl_ast.specs.declared.tree.Target.{Target}
use Rattle.jl_ast.proofs.Views.{expression_placed}
use Rattle.jl_value.specs.declared.value.Value.{Value}
use Rattle.jl_meaning.specs.Parts as parts
use Rattle.jl_meaning.specs.Parts.{Answer, Part}
use Rattle.jl_state.specs.Rest.{RefinesExpression}
use Rattle.jl_state.specs.Trees.{plain}
use Rattle.jl_state.specs.declared.act.Act.{Act}
use Rattle.jl_state.specs.declared.state.State.{State}

-- what is done with an expression is done with its kind
pub of_kind : (F : parts.Expr → Part (Answer Value)) (s : State) (e : Expr) (k : ExprKind) (x : Tree Span tree.expr)
    (t : State) (a : Act) → e.kind ≡ k → view_expression_kind k e.span ≡ x → RefinesExpression s (F (plain x)) t a
    → RefinesExpression s (F (plain (view_expression e))) t a
of_kind F s e k x t a is seen refines =
    subst (λ (y : Tree Span tree.expr). RefinesExpression s (F (plain y)) t a)
    (sym (expression_placed e ∙ ap (λ (j : ExprKind). view_expression_kind j e.span) is ∙ seen)) refines

-- what is done with an expression is done with one that is the same
pub of_same : (F : parts.Expr → Part (Answer Value)) (s : State) (e b : Expr) (t : State) (a : Act) → e ≡ b
    → RefinesExpression s (F (plain (view_expression e))) t a → RefinesExpression s (F (plain (view_expression b))) t a
of_same F s e b t a same refines = subst (λ (d : Expr). RefinesExpression s
    (F (plain (view_expression d))) t a) same refines

-- the same of what is assigned to
pub of_target : (F : Tree ℕ tree.target → Part (Answer Value)) (s : State) (w v : Target) (x : Tree Span tree.target)
    (t : State) (a : Act) → w ≡ v → view_target v ≡ x → RefinesExpression s (F (plain x)) t a
    → RefinesExpression s (F (plain (view_target w))) t a
of_target F s w v x t a is seen refines =
    subst (λ (y : Tree Span tree.target). RefinesExpression s (F (plain y)) t a)
    (sym (ap view_target is ∙ seen)) refines
