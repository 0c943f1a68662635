-- What an expression is that is of none of some kinds.
use Rattle.std.proofs.Common.{◌≡◌, List, arith, false, rules, true}
use Rattle.std.specs.Global.{Global}
use Rattle.std.specs.declared.boxed.Box.{Box}
use Rattle.jl_ast.specs.Tree.{Text}
use Rattle.jl_ast.specs.View.{view_expression}
use Rattle.jl_ast.specs.declared.tree.Expr.{Expr}
use Rattle.jl_ast.specs.declared.tree.ExprKind as expression
use Rattle.jl_ast.specs.declared.tree.ExprKind.{the_lemmas}
use Rattle.jl_ast.proofs.Views.{nodes}
use Rattle.jl_state.specs.Trees.{plain}
use Rattle.jl_expression.specs.inner.Forms.{is_name, is_value}

pub no_name : (e : Expr) → ((x : Text) → e.kind ≡ expression.Name x → ⊥) → is_name (plain (view_expression e)) ≡ false
no_name e other = first_of (grind (arith, nodes), search (rules, the_lemmas, nodes), grind (arith, nodes, the_lemmas))

pub no_member : (e : Expr) → ((o : Box Expr Global) (k : Text) → e.kind ≡ expression.Dot o k → ⊥)
    → ((o k : Box Expr Global) → e.kind ≡ expression.Index o k → ⊥)
    → ((f : Box Expr Global) (l : List Expr) → e.kind ≡ expression.Call f l → ⊥)
    → is_value (plain (view_expression e)) ≡ true
no_member e dot index call =
    first_of (grind (arith, nodes), search (rules, the_lemmas, nodes), grind (arith, nodes, the_lemmas))
