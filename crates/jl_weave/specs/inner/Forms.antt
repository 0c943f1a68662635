-- The woven form of each form that may call a hook, over parts that are woven already.
use Rattle.std.specs.Prelude.{codes, if◌then◌else◌, ◌+◌, ◌||◌, Bool, None, Option, Some, ℕ}
use Rattle.jl_ast.specs.Tree.{Forest, OptionalTree, Sort, Text}
use Rattle.jl_ast.specs.Tree as tree
use Rattle.jl_ast.specs.declared.ops.BinOp.{BinOp}
use Rattle.jl_ast.specs.declared.ops.UnOp.{UnOp}
use Rattle.jl_ast.specs.declared.ops.UnOp.TheVariants as un
use Rattle.jl_op.specs.Chosen.{Kinds}
use Rattle.jl_op.specs.Ids.{ident_with_id}
use Rattle.jl_op.specs.declared.kind.OpKind.{OpKind}
use Rattle.jl_op.specs.declared.kind.OpKind.TheVariants as kind
use Rattle.jl_op.specs.UnaryKinds.{unary_kind, update_kind}
use Rattle.jl_simulation.specs.HookCalls.{assign, assign_hook, before_update, binary_hook, hook, hook_1, hook_of_1}
use Rattle.jl_simulation.specs.HookCalls.{hook_statement, name_of, no_exprs, string_of, read, unary_hook, update_hook}
use Rattle.jl_simulation.specs.HookCalls.{write}
use Rattle.jl_simulation.specs.HookCalls.{and_last, Expr, Exprs, Stmt, Stmts, Woven}
use Rattle.jl_simulation.specs.Weaving.{calls, hooked_if}
use Rattle.jl_weave.specs.inner.Bare.{bare_expression}
use Rattle.jl_weave.specs.declared.members.Member.{Member}
use Rattle.jl_weave.specs.declared.members.Member.TheVariants as member

-- one forest, and then another
abbrev pub append_forest : {S : Type 0} {x : Sort} → Forest S x → Forest S x → Forest S x
append_forest tree.end m = m
append_forest (tree.more t l) m = tree.more t (append_forest l m)

-- this statement, if so
abbrev pub first_if : Bool → Stmt → Stmts
first_if b t = if b then tree.more t tree.end else tree.end

-- a member of the code: its object, its key, and itself
abbrev pub base_of : Member → Expr
base_of (member.Dot o k) = bare_expression o
base_of (member.Index o k) = bare_expression o

abbrev pub key_of : Member → Expr
key_of (member.Dot o k) = string_of k
key_of (member.Index o k) = bare_expression k

abbrev pub itself_of : Member → Expr
itself_of (member.Dot o k) = tree.dot (bare_expression o) k tt
itself_of (member.Index o k) = tree.index (bare_expression o) (bare_expression k) tt

-- the new value of `++` and `--`, by hooks
abbrev pub updated_form : (id : ℕ) → (up : Bool) → Woven tree.target → Expr
updated_form id up (tree.to_name x) =
    assign (ident_with_id x id) (id + 2) (unary_hook (id + 1) (update_kind up) (read id x.text))
updated_form id up (tree.to_dot o k at) = update_hook id up o (string_of k)
updated_form id up (tree.to_index o k at) = update_hook id up o k

-- an assignment, by hooks
abbrev pub assigned_form : (id : ℕ) → Option BinOp → Woven tree.target → Expr → Expr
assigned_form id None (tree.to_name x) e = assign (ident_with_id x id) id e
assigned_form id (Some o) (tree.to_name x) e =
    assign (ident_with_id x id) (id + 2) (binary_hook (id + 1) o (read id x.text) e)
assigned_form id o (tree.to_dot a k at) e = assign_hook id o a (string_of k) e
assigned_form id o (tree.to_index a k at) e = assign_hook id o a k e

module _ (chosen : Kinds) where
  abbrev pub name_form : (id : ℕ) → Text → Expr
  name_form id x = if chosen kind.Read then read id x else name_of x

  abbrev pub callee_form : (id : ℕ) → Expr → Expr
  callee_form id f = if calls chosen then hook_1 (codes "F") id f else f

  abbrev pub new_form : (id : ℕ) → Expr → Exprs → Expr
  new_form id f l = if calls chosen then tree.call (hook_1 (codes "N") id f) l tt else tree.new f l tt

  abbrev pub unary_form : (id : ℕ) → UnOp → Expr → Expr
  unary_form id o e = if chosen kind.Unary then unary_hook id (unary_kind o) e else tree.unary o e tt

  abbrev pub typeof_name_form : (id : ℕ) → Text → Expr
  typeof_name_form id x =
      hooked_if chosen kind.TypeofName (hook_of_1 (codes "Y") id x) (tree.unary un.Typeof (name_of x) tt)

  abbrev pub binary_form : (id : ℕ) → BinOp → Expr → Expr → Expr
  binary_form id o a b = if chosen kind.Binary then binary_hook id o a b else tree.binary o a b tt

  -- whether a hook reads this target, computes by an operation of this kind, and writes
  abbrev pub computes_form : Woven tree.target → OpKind → Bool
  computes_form (tree.to_name x) o = chosen kind.Read || chosen o || chosen kind.Write
  computes_form (tree.to_dot a k at) o = chosen kind.GetField || chosen o || chosen kind.PutField
  computes_form (tree.to_index a k at) o = chosen kind.GetField || chosen o || chosen kind.PutField

  -- whether a hook assigns to this target
  abbrev pub assigns_form : Option BinOp → Woven tree.target → Bool
  assigns_form None (tree.to_name x) = chosen kind.Write
  assigns_form None (tree.to_dot a k at) = chosen kind.PutField
  assigns_form None (tree.to_index a k at) = chosen kind.PutField
  assigns_form (Some o) t = computes_form t kind.Binary

  abbrev pub update_form : (id : ℕ) → (up prefix : Bool) → Woven tree.target → Expr
  update_form id up prefix t =
      if computes_form t kind.Unary then before_update up prefix (updated_form id up t)
      else tree.update up prefix t tt

  abbrev pub assignment_form : (id : ℕ) → Option BinOp → Woven tree.target → Expr → Expr
  assignment_form id o t e = if assigns_form o t then assigned_form id o t e else tree.assign o t e tt

  abbrev pub written_form : (id : ℕ) → Text → Expr → Expr
  written_form id x e = hooked_if chosen kind.Write (write id x) e

  -- a part that a hook tells of, if it is there
  abbrev pub told_if_present : OpKind → (by_hook : Expr → Expr) → OptionalTree (Unit {0}) tree.expr
      → OptionalTree (Unit {0}) tree.expr
  told_if_present o by_hook tree.absent = tree.absent
  told_if_present o by_hook (tree.present e) = tree.present (hooked_if chosen o by_hook e)

  -- what stands first in a block that catches
  abbrev pub caught_form : (id : ℕ) → Text → Stmts
  caught_form id x = first_if (chosen kind.Catch) (hook_statement (hook_of_1 (codes "H") id x (name_of x)))

  -- the body of a function: what stands first in it, and the whole
  abbrev pub is_entered : Bool
  is_entered = chosen kind.FunctionEnter || chosen kind.FunctionExit

  abbrev pub entry_form : (id : ℕ) → Stmts
  entry_form id = first_if is_entered (hook_statement (hook (codes "E") id no_exprs))

  abbrev pub left_form : (id : ℕ) → Stmts → Stmts
  left_form id l =
      if is_entered then tree.more (tree.try l tree.absent (tree.present (tree.branch_of
      (tree.more (hook_statement (hook (codes "L") (id + 1) no_exprs)) tree.end))) tt) tree.end else l

  -- a program: what stands first in it, and the whole
  abbrev pub is_begun : Bool
  is_begun = chosen kind.ScriptEnter || chosen kind.ScriptExit

  abbrev pub beginning_form : (id : ℕ) → Stmts
  beginning_form id = first_if is_begun (hook_statement (hook (codes "S") id no_exprs))

  abbrev pub ended_form : (id : ℕ) → Stmts → Stmts
  ended_form id l = if is_begun then and_last l (hook_statement (hook (codes "X") (id + 1) no_exprs)) else l
