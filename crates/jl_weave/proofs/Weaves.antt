-- A part with its ids from n on, what it became, and the id after its own.
use Rattle.std.proofs.Common.{◌≡◌, ℕ, ◌+◌}
use Rattle.jl_ast.specs.Tree as tree
use Rattle.jl_ast.specs.Tree.{Forest, OptionalTree, Sort, Tree}
use Rattle.jl_op.specs.Chosen.{Kinds}
use Rattle.jl_op.specs.Ids.{forest_id_count, id_count, optional_id_count}
use Rattle.jl_simulation.specs.HookCalls.{Expr, Stmts, Woven}
use Rattle.jl_weave.specs.inner.Woven.{callee_at, woven_after_at, woven_all_at, woven_at}
use Rattle.jl_weave.specs.inner.Woven.{woven_if_present_at}

pub record Weaves (chosen : Kinds) {S : Type 0} {x : Sort} (t : Tree S x) (n : ℕ) (made : Woven x) (next : ℕ)
    : Type 0 where
  pub is : made ≡ woven_at chosen n t
  pub counted : next ≡ n + id_count t

pub record WeavesAll (chosen : Kinds) {S : Type 0} {x : Sort} (l : Forest S x) (n : ℕ) (made : Forest (Unit {0}) x)
    (next : ℕ) : Type 0 where
  pub is : made ≡ woven_all_at chosen n l
  pub counted : next ≡ n + forest_id_count l

pub record WeavesIfPresent (chosen : Kinds) {S : Type 0} {x : Sort} (t : OptionalTree S x) (n : ℕ)
    (made : OptionalTree (Unit {0}) x) (next : ℕ) : Type 0 where
  pub is : made ≡ woven_if_present_at chosen n t
  pub counted : next ≡ n + optional_id_count t

pub record WeavesAfter (chosen : Kinds) {S : Type 0} (first : Stmts) (l : Forest S tree.stmt) (n : ℕ) (made : Stmts)
    (next : ℕ) : Type 0 where
  pub is : made ≡ woven_after_at chosen first n l
  pub counted : next ≡ n + forest_id_count l

pub record WeavesCallee (chosen : Kinds) {S : Type 0} (f : Tree S tree.expr) (n : ℕ) (made : Expr) (next : ℕ)
    : Type 0 where
  pub is : made ≡ callee_at chosen n f
  pub counted : next ≡ n + 2 + id_count f
