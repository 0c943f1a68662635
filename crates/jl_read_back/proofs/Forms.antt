-- What is woven by a hook, or stands as it is; and the forms whose weaving asks what their operand is.
use Rattle.std.proofs.Common.{◌≡◌, codes, ℕ, Bool, true, false, refl}
use Rattle.std.specs.Prelude.{if◌then◌else◌}
use Rattle.jl_ast.specs.Tree as tree
use Rattle.jl_ast.specs.Tree.{Forest, Sort, Tree}
use Rattle.jl_ast.specs.declared.ops.UnOp.TheVariants as un
use Rattle.jl_op.specs.Chosen.{Kinds}
use Rattle.jl_op.specs.Ids.{with_ids}
use Rattle.jl_op.specs.declared.kind.OpKind.TheVariants as kind
use Rattle.jl_op.specs.declared.sign.UnKind.TheVariants as unary
use Rattle.jl_simulation.specs.HookCalls.{hook_1, unary_hook, Expr}
use Rattle.jl_simulation.specs.Weaving.{calls, woven_callee, woven_delete, woven_typeof}
use Rattle.jl_simulation.proofs.Shapes.{IsNoMember}

abbrev pub IsNoName : {S : Type 0} → Tree S tree.expr → Type 0
IsNoName (tree.name x s) = ⊥
IsNoName _ = Unit {0}

-- what holds of both holds of the one that is chosen
pub way : {S : Type 0} {x : Sort} (P : Tree S x → Type 0) (b : Bool) (t u : Tree S x) → P t → P u
    → P (if b then t else u)
way P true t u p q = p
way P false t u p q = q

pub ways : {S : Type 0} {x : Sort} (P : Forest S x → Type 0) (b : Bool) (t u : Forest S x) → P t → P u
    → P (if b then t else u)
ways P true t u p q = p
ways P false t u p q = q

module _ {S : Type 0} (chosen : Kinds) (n id : ℕ) where
  -- what is called and is no member
  pub callee_is : (f : Tree S tree.expr) → IsNoMember f → (w : Expr) → woven_callee chosen (with_ids n f) w id ≡
      (if calls chosen then hook_1 (codes "F") id w else w)
  callee_is (tree.dot o k s) h w = absurd h
  callee_is (tree.index o k s) h w = absurd h
  callee_is (tree.unary un.Delete e s) h w = refl
  callee_is (tree.unary o e s) h w = refl
  callee_is _ h w = refl

  -- the operand of `typeof` that is no name
  pub typeof_is : (e : Tree S tree.expr) → IsNoName e → (w : Expr) → woven_typeof chosen id (with_ids n e) w ≡
      (if chosen kind.Unary then unary_hook id unary.Typeof w else tree.unary un.Typeof w tt)
  typeof_is (tree.name x s) h w = absurd h
  typeof_is (tree.unary un.Delete e s) h w = refl
  typeof_is (tree.unary o e s) h w = refl
  typeof_is _ h w = refl

  -- what is deleted and is neither a name nor a member
  pub delete_is : (e : Tree S tree.expr) → IsNoName e → IsNoMember e → (w : Expr)
      → woven_delete chosen (with_ids n e) w id ≡ tree.unary un.Delete w tt
  delete_is (tree.name x s) h i w = absurd h
  delete_is (tree.dot o k s) h i w = absurd i
  delete_is (tree.index o k s) h i w = absurd i
  delete_is (tree.unary un.Delete e s) h i w = refl
  delete_is (tree.unary o e s) h i w = refl
  delete_is _ h i w = refl
