-- Callees, of which the definition looks at what they are.
use Rattle.std.proofs.Common.{◌≡◌, ◌∙◌, ap, sym, ℕ, ◌+◌, add-zero}
use Rattle.jl_ast.specs.Tree as tree
use Rattle.jl_ast.specs.Tree.{Tree}
use Rattle.jl_ast.specs.declared.ops.UnOp.TheVariants as un
use Rattle.jl_op.specs.Chosen.{Kinds}
use Rattle.jl_op.specs.Ids.{callee_with_ids, member_ids, with_ids}
use Rattle.jl_simulation.specs.HookCalls.{Expr}
use Rattle.jl_simulation.specs.Weaving.{weave, woven_callee}
use Rattle.jl_simulation.proofs.Shapes.{IsNoMember}
use Rattle.jl_weave.specs.inner.Forms.{callee_form}
use Rattle.jl_weave.proofs.Weaves.{Weaves, WeavesCallee}

module _ (chosen : Kinds) {S : Type 0} where
  callee_is : (f : Tree S tree.expr) (n : ℕ) → IsNoMember f →
      callee_form chosen n (weave chosen (with_ids (n + 2) f))
      ≡ woven_callee chosen (callee_with_ids n f (with_ids (n + 2) f))
      (weave chosen (callee_with_ids n f (with_ids (n + 2) f))) (n + member_ids f)
  callee_is (tree.dot o k s) n h = absurd h
  callee_is (tree.index o k s) n h = absurd h
  callee_is (tree.unary un.Minus e s) n h =
      ap (λ id. callee_form chosen id (weave chosen (with_ids (n + 2) (tree.unary un.Minus e s)))) (sym (add-zero n))
  callee_is (tree.unary un.Plus e s) n h =
      ap (λ id. callee_form chosen id (weave chosen (with_ids (n + 2) (tree.unary un.Plus e s)))) (sym (add-zero n))
  callee_is (tree.unary un.Not e s) n h =
      ap (λ id. callee_form chosen id (weave chosen (with_ids (n + 2) (tree.unary un.Not e s)))) (sym (add-zero n))
  callee_is (tree.unary un.Tilde e s) n h =
      ap (λ id. callee_form chosen id (weave chosen (with_ids (n + 2) (tree.unary un.Tilde e s)))) (sym (add-zero n))
  callee_is (tree.unary un.Typeof e s) n h =
      ap (λ id. callee_form chosen id (weave chosen (with_ids (n + 2) (tree.unary un.Typeof e s)))) (sym (add-zero n))
  callee_is (tree.unary un.Void e s) n h =
      ap (λ id. callee_form chosen id (weave chosen (with_ids (n + 2) (tree.unary un.Void e s)))) (sym (add-zero n))
  callee_is (tree.unary un.Delete e s) n h =
      ap (λ id. callee_form chosen id (weave chosen (with_ids (n + 2) (tree.unary un.Delete e s)))) (sym (add-zero n))
  callee_is f n h = ap (λ id. callee_form chosen id (weave chosen (with_ids (n + 2) f))) (sym (add-zero n))

  pub callee_woven : (f : Tree S tree.expr) {f' made : Expr} {n next : ℕ} → IsNoMember f →
      Weaves chosen f (n + 2) f' next → made ≡ callee_form chosen n f' → WeavesCallee chosen f n made next
  callee_woven f {n = n} h w e = record {
    is = e ∙ ap (callee_form chosen n) w.is ∙ callee_is f n h;
    counted = w.counted;
  }
