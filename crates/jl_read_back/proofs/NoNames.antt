-- What is neither a name nor a member is woven to no name.
use Rattle.std.proofs.Common.{◌≡◌, ℕ, Bool, true, false, Option, Some, None, refl}
use Rattle.std.specs.Prelude.{if◌then◌else◌}
use Rattle.jl_ast.specs.Spans.{map_tree}
use Rattle.jl_ast.specs.Tree as tree
use Rattle.jl_ast.specs.Tree.{is_name, Tree}
use Rattle.jl_ast.specs.declared.ops.BinOp.{BinOp}
use Rattle.jl_ast.specs.declared.ops.UnOp.TheVariants as un
use Rattle.jl_op.specs.Chosen.{Kinds}
use Rattle.jl_op.specs.Ids.{with_ids}
use Rattle.jl_op.specs.declared.kind.OpKind.TheVariants as kind
use Rattle.jl_simulation.specs.HookCalls.{before_update, Expr}
use Rattle.jl_simulation.specs.Weaving.{assigns, calls, computes, weave, woven_assignment, woven_delete, woven_typeof}
use Rattle.jl_simulation.specs.Weaving.{woven_update}
use Rattle.jl_simulation.proofs.Shapes.{IsNoMember}
use Rattle.jl_text.specs.declared.span.Span.{Span}
use Rattle.jl_read_back.proofs.Forms.{IsNoName}

module _ (chosen : Kinds) (at : Span) where
  abbrev IsOther : Expr → Type 0
  IsOther e = is_name (map_tree (λ u. at) e) ≡ false

  either : (b : Bool) (t u : Expr) → IsOther t → IsOther u → IsOther (if b then t else u)
  either true t u p q = p
  either false t u p q = q

  typed : (id : ℕ) (e : Tree ℕ tree.expr) (w : Expr) → IsOther (woven_typeof chosen id e w)
  typed id (tree.name x s) w = either (chosen kind.TypeofName) _ _ refl refl
  typed id _ w = either (chosen kind.Unary) _ _ refl refl

  deleted : (id : ℕ) (e : Tree ℕ tree.expr) (w : Expr) → IsOther (woven_delete chosen e w id)
  deleted id (tree.name x s) w = refl
  deleted id (tree.dot o k s) w = either (chosen kind.DeleteField) _ _ refl refl
  deleted id (tree.index o k s) w = either (chosen kind.DeleteField) _ _ refl refl
  deleted id _ w = refl

  updated : (id : ℕ) (up prefix : Bool) (t : Tree ℕ tree.target)
      → IsOther (before_update up prefix (woven_update chosen up t id))
  updated id true false t = refl
  updated id false false t = refl
  updated id up true (tree.to_name x) = refl
  updated id up true (tree.to_dot o k s) = refl
  updated id up true (tree.to_index o k s) = refl

  assigned : (id : ℕ) (o : Option BinOp) (t : Tree ℕ tree.target) (w : Expr)
      → IsOther (woven_assignment chosen o t w id)
  assigned id None (tree.to_name x) w = refl
  assigned id (Some q) (tree.to_name x) w = refl
  assigned id None (tree.to_dot o k s) w = refl
  assigned id (Some q) (tree.to_dot o k s) w = refl
  assigned id None (tree.to_index o k s) w = refl
  assigned id (Some q) (tree.to_index o k s) w = refl

  other : (e : Tree ℕ tree.expr) → IsNoName e → IsNoMember e → IsOther (weave chosen e)
  other (tree.name x s) h i = absurd h
  other (tree.dot o k s) h i = absurd i
  other (tree.index o k s) h i = absurd i
  other (tree.number m s) h i = either (chosen kind.Literal) _ _ refl refl
  other (tree.string m s) h i = either (chosen kind.Literal) _ _ refl refl
  other (tree.boolean m s) h i = either (chosen kind.Literal) _ _ refl refl
  other (tree.null s) h i = either (chosen kind.Literal) _ _ refl refl
  other (tree.array l s) h i = either (chosen kind.ArrayLiteral) _ _ refl refl
  other (tree.object l s) h i = either (chosen kind.ObjectLiteral) _ _ refl refl
  other (tree.function_expression l s) h i = either (chosen kind.FunctionLiteral) _ _ refl refl
  other (tree.new f l s) h i = either (calls chosen) _ _ refl refl
  other (tree.unary un.Typeof e s) h i = typed s e (weave chosen e)
  other (tree.unary un.Delete e s) h i = deleted s e (weave chosen e)
  other (tree.unary o e s) h i = either (chosen kind.Unary) _ _ refl refl
  other (tree.update up prefix t s) h i =
      either (computes chosen t kind.Unary) _ _ (updated s up prefix t) refl
  other (tree.binary o a b s) h i = either (chosen kind.Binary) _ _ refl refl
  other (tree.assign o t e s) h i = either (assigns chosen o t) _ _ (assigned s o t (weave chosen e)) refl
  other _ h i = refl

  name_with_ids : {S : Type 0} (n : ℕ) (e : Tree S tree.expr) → IsNoName e → IsNoName (with_ids n e)
  name_with_ids n (tree.name x s) h = absurd h
  name_with_ids n (tree.unary un.Delete e s) h = tt
  name_with_ids n (tree.unary o e s) h = tt
  name_with_ids n _ h = tt

  member_with_ids : {S : Type 0} (n : ℕ) (e : Tree S tree.expr) → IsNoMember e → IsNoMember (with_ids n e)
  member_with_ids n (tree.dot o k s) h = absurd h
  member_with_ids n (tree.index o k s) h = absurd h
  member_with_ids n (tree.unary un.Delete e s) h = tt
  member_with_ids n (tree.unary o e s) h = tt
  member_with_ids n _ h = tt

  pub no_name : {S : Type 0} (e : Tree S tree.expr) → IsNoName e → IsNoMember e → (n : ℕ)
      → IsOther (weave chosen (with_ids n e))
  no_name e h i n = other (with_ids n e) (name_with_ids n e h) (member_with_ids n e i)
