-- The woven form of a statement, of its woven parts.
use Rattle.std.proofs.Common.{codes, ◌≡◌, ◌∙◌, ap, arith, refl, ℕ, ◌+◌, None, Option, Some, option_map}
use Rattle.jl_ast.specs.Tree as tree
use Rattle.jl_ast.specs.Tree.{Forest, Ident, OptionalTree, Tree}
use Rattle.jl_ast.proofs.Congruences.{ap₄}
use Rattle.jl_op.specs.Chosen.{Kinds}
use Rattle.jl_op.specs.Ids.{ident_with_id, id_count, one_if_present}
use Rattle.jl_op.specs.Ids.{optional_id_count, optional_with_ids}
use Rattle.jl_op.specs.declared.kind.OpKind.TheVariants as kind
use Rattle.jl_simulation.specs.HookCalls.{hook_1, without_id, write, Stmt, Stmts, Woven}
use Rattle.jl_simulation.specs.Weaving.{weave, woven_optional, woven_test}
use Rattle.jl_weave.specs.inner.Bare.{without_place}
use Rattle.jl_weave.specs.inner.Forms.{told_if_present}
use Rattle.jl_weave.proofs.Weaves.{Weaves, WeavesAll, WeavesIfPresent}
use Rattle.jl_weave.proofs.Parts.{part, part_if_present, parts}

-- a name without its place has none once it has an id
pub label_is : {S : Type 0} (n : ℕ) (x : Option (Ident S)) →
    option_map without_place x
    ≡ option_map without_id (option_map (λ y. ident_with_id y n) x)
label_is n None = refl
label_is n (Some x) = refl

-- what may not be there, told of before it is written
module _ (chosen : Kinds) where
  test_is : (n : ℕ) (v : OptionalTree ℕ tree.expr) →
      told_if_present chosen kind.Conditional (hook_1 (codes "C") n) (woven_optional chosen v)
      ≡ woven_test chosen n v
  test_is n tree.absent = refl
  test_is n (tree.present v) = refl

  return_is : (n : ℕ) (v : OptionalTree ℕ tree.expr) →
      tree.return (told_if_present chosen kind.Return (hook_1 (codes "V") n) (woven_optional chosen v)) tt
      ≡ weave chosen (tree.return v n)
  return_is n tree.absent = refl
  return_is n (tree.present v) = refl

module _ (chosen : Kinds) {S : Type 0} where
  pub for_woven : (i : Tree S tree.init) (v u : OptionalTree S tree.expr) (l : Forest S tree.stmt) (s : S)
      {i' : Woven tree.init} {v' test u' : OptionalTree (Unit {0}) tree.expr} {l' : Stmts} {made : Stmt}
      {n m p q r next : ℕ} → m ≡ n + one_if_present v → Weaves chosen i m i' p → WeavesIfPresent chosen v p v' q →
      test ≡ told_if_present chosen kind.Conditional (hook_1 (codes "C") n) v' → WeavesIfPresent chosen u q u' r →
      WeavesAll chosen l r l' next → made ≡ tree.for i' test u' l' tt →
      Weaves chosen (tree.for i v u l s) n made next
  for_woven i v u l s {n = n} {p = p} {q = q} {r = r} f w x t y z e =
      let c = w.counted in let d = x.counted in let g = y.counted in let h = z.counted in
      let k : p ≡ n + one_if_present v + id_count i = omega arith in
      let k' : q ≡ n + one_if_present v + id_count i + optional_id_count v = omega arith in
      let k'' : r ≡ n + one_if_present v + id_count i + optional_id_count v + optional_id_count u = omega arith in
      record {
        is = e ∙ ap₄ (λ i v u l. tree.for i v u l tt) (part chosen i w f)
            (t ∙ ap (told_if_present chosen kind.Conditional (hook_1 (codes "C") n)) (part_if_present chosen v x k)
            ∙ test_is chosen n (optional_with_ids (n + one_if_present v + id_count i) v))
            (part_if_present chosen u y k') (parts chosen l z k'');
        counted = omega arith;
      }

  pub return_woven : (v : OptionalTree S tree.expr) (s : S) {v' value : OptionalTree (Unit {0}) tree.expr}
      {made : Stmt} {n m next : ℕ} → m ≡ n + one_if_present v → WeavesIfPresent chosen v m v' next →
      value ≡ told_if_present chosen kind.Return (hook_1 (codes "V") n) v' → made ≡ tree.return value tt →
      Weaves chosen (tree.return v s) n made next
  return_woven v s {n = n} f w i e = record {
    is = e ∙ ap (λ v. tree.return v tt)
        (i ∙ ap (told_if_present chosen kind.Return (hook_1 (codes "V") n)) (part_if_present chosen v w f))
        ∙ return_is chosen n (optional_with_ids (n + one_if_present v) v);
    counted = (let c = w.counted in omega arith);
  }

  declarator_is : (n : ℕ) (x : Ident S) (v : OptionalTree ℕ tree.expr) →
      tree.declarator (without_place x)
      (told_if_present chosen kind.Write (write n x.text) (woven_optional chosen v))
      ≡ weave chosen (tree.declarator (ident_with_id x n) v)
  declarator_is n x tree.absent = refl
  declarator_is n x (tree.present v) = refl

  pub declarator_woven : (x : Ident S) (v : OptionalTree S tree.expr)
      {v' value : OptionalTree (Unit {0}) tree.expr} {made : Woven tree.decl} {n m next : ℕ} →
      m ≡ n + one_if_present v → WeavesIfPresent chosen v m v' next →
      value ≡ told_if_present chosen kind.Write (write n x.text) v' →
      made ≡ tree.declarator (without_place x) value →
      Weaves chosen (tree.declarator x v) n made next
  declarator_woven x v {n = n} f w i e = record {
    is = e ∙ ap (λ v. tree.declarator (without_place x) v)
        (i ∙ ap (told_if_present chosen kind.Write (write n x.text)) (part_if_present chosen v w f))
        ∙ declarator_is n x (optional_with_ids (n + one_if_present v) v);
    counted = (let c = w.counted in omega arith);
  }
