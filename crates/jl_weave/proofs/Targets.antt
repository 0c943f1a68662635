-- What is assigned to, without the places of its nodes.
use Rattle.std.proofs.Common.{◌≡◌, ap}
use Rattle.jl_text.specs.declared.span.Span.{Span}
use Rattle.jl_ast.specs.Spans.{tree_without_spans}
use Rattle.jl_ast.specs.Tree as tree
use Rattle.jl_ast.specs.Tree.{Text}
use Rattle.jl_ast.specs.declared.tree.Expr.{Expr}
use Rattle.jl_ast.specs.declared.tree.Ident.{Ident}
use Rattle.jl_ast.specs.declared.tree.Target as target
use Rattle.jl_ast.proofs.Views.{target_Dot, target_Index, target_Name}
use Rattle.jl_weave.specs.inner.Bare.{bare_expression, bare_ident, bare_target}

pub bare_name : (x : Ident) → bare_target (target.Name x) ≡ tree.to_name (bare_ident x)
unfolding bare_target
bare_name x = ap tree_without_spans (target_Name x)

pub bare_dot : (o : Expr) (k : Text) (s : Span)
    → bare_target (target.Dot o k s) ≡ tree.to_dot (bare_expression o) k tt
unfolding bare_target bare_expression
bare_dot o k s = ap tree_without_spans (target_Dot o k s)

pub bare_index : (o k : Expr) (s : Span)
    → bare_target (target.Index o k s) ≡ tree.to_index (bare_expression o) (bare_expression k) tt
unfolding bare_target bare_expression
bare_index o k s = ap tree_without_spans (target_Index o k s)

pub ruleset targets = (bare_name, bare_dot, bare_index)
