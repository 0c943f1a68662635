-- What a part becomes that takes its ids from n on.
use Rattle.std.specs.Prelude.{◌+◌, ◌<◌, ◌^◌, ℕ}
use Rattle.jl_ast.specs.Tree as tree
use Rattle.jl_ast.specs.Tree.{Forest, OptionalTree, Sort, Tree}
use Rattle.jl_op.specs.Chosen.{Kinds}
use Rattle.jl_op.specs.Ids.{callee_with_ids, forest_with_ids, handler_with_ids, member_ids, optional_with_ids, with_ids}
use Rattle.jl_op.specs.KindSets.{is_member}
use Rattle.jl_simulation.specs.HookCalls.{Expr, Stmts, Woven}
use Rattle.jl_simulation.specs.Weaving.{hook_test, weave, woven_callee, woven_forest, woven_optional}
use Rattle.jl_weave.specs.inner.Forms.{append_forest}
use Rattle.jl_weave.specs.declared.weaver.Weaver.{Weaver}

-- the kinds that a weaver tells of
abbrev pub chosen_of : Weaver → Kinds
chosen_of w = is_member w.kinds

-- there are so many ids from this one on
abbrev pub HasIds : (n count : ℕ) → Type 0
HasIds n count = n + count < 2 ^ 32

module _ (chosen : Kinds) where
  abbrev pub woven_at : {S : Type 0} {x : Sort} → (n : ℕ) → Tree S x → Woven x
  woven_at n t = weave chosen (with_ids n t)

  abbrev pub woven_all_at : {S : Type 0} {x : Sort} → (n : ℕ) → Forest S x → Forest (Unit {0}) x
  woven_all_at n l = woven_forest chosen (forest_with_ids n l)

  abbrev pub woven_if_present_at : {S : Type 0} {x : Sort} → (n : ℕ) → OptionalTree S x → OptionalTree (Unit {0}) x
  woven_if_present_at n t = woven_optional chosen (optional_with_ids n t)

  -- statements, after others that are woven already
  abbrev pub woven_after_at : {S : Type 0} → (first : Stmts) → (n : ℕ) → Forest S tree.stmt → Stmts
  woven_after_at first n l = append_forest first (woven_all_at n l)

  -- what is tested, which takes an id before its own
  abbrev pub tested_at : {S : Type 0} → (n : ℕ) → Tree S tree.expr → Expr
  tested_at n e = hook_test chosen n (woven_at (n + 1) e)

  -- the callee of a call, which takes the ids of that call too
  abbrev pub callee_at : {S : Type 0} → (n : ℕ) → Tree S tree.expr → Expr
  callee_at n f =
      let g = callee_with_ids n f (with_ids (n + 2) f) in
      woven_callee chosen g (weave chosen g) (n + member_ids f)

  -- the `catch` of a `try`, whose name has an id that was taken before
  abbrev pub handler_at : {S : Type 0} → (id n : ℕ) → OptionalTree S tree.handler
      → OptionalTree (Unit {0}) tree.handler
  handler_at id n h = woven_optional chosen (handler_with_ids id n h)
