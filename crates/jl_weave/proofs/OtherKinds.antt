-- Expressions that are no members: what the code leaves to its last arm.
use Rattle.std.proofs.Common.{◌≡◌, arith, false, rules, sym, true, Bool}
use Rattle.std.proofs.lemmas.Bool.{false≢true}
use Rattle.std.specs.Global.{Global}
use Rattle.std.specs.declared.boxed.Box.{Box}
use Rattle.jl_ast.specs.Tree as tree
use Rattle.jl_ast.specs.Tree.{Text, Tree}
use Rattle.jl_ast.specs.View.{view_expression}
use Rattle.jl_ast.specs.declared.tree.Expr.{Expr}
use Rattle.jl_ast.specs.declared.tree.ExprKind as expression
use Rattle.jl_ast.specs.declared.tree.ExprKind.{the_lemmas}
use Rattle.jl_ast.proofs.Views.{nodes}
use Rattle.jl_simulation.proofs.Shapes.{IsNoMember}

abbrev is_member : {S : Type 0} → Tree S tree.expr → Bool
is_member (tree.dot o k s) = true
is_member (tree.index o k s) = true
is_member e = false

by_member_test : {S : Type 0} (e : Tree S tree.expr) → is_member e ≡ false → IsNoMember e
by_member_test (tree.dot o k s) h = absurd (false≢true (sym h))
by_member_test (tree.index o k s) h = absurd (false≢true (sym h))
by_member_test e h = tt

not_seen_as_member : (e : Expr) → ((o : Box Expr Global) (k : Text) → e.kind ≡ expression.Dot o k → ⊥) →
    ((o k : Box Expr Global) → e.kind ≡ expression.Index o k → ⊥) → is_member (view_expression e) ≡ false
not_seen_as_member e dot index =
    first_of (grind (arith, nodes), search (rules, the_lemmas, nodes), grind (arith, nodes, the_lemmas))

pub no_member : (e : Expr) → ((o : Box Expr Global) (k : Text) → e.kind ≡ expression.Dot o k → ⊥) →
    ((o k : Box Expr Global) → e.kind ≡ expression.Index o k → ⊥) → IsNoMember (view_expression e)
no_member e dot index = by_member_test (view_expression e) (not_seen_as_member e dot index)
