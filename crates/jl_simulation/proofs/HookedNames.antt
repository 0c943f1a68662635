-- What the woven assignments and updates of names come to: calls of hooks in calls of hooks.
use Rattle.std.proofs.Common.{◌≡◌, ℕ, ◌+◌, ◌<◌, Bool, true, false, codes, refl, ap, ◌∙◌, arith}
use Rattle.jl_ast.specs.Tree.{Text}
use Rattle.jl_ast.specs.declared.ops.BinOp.{BinOp}
use Rattle.jl_op.specs.Ids.{id_count, with_ids}
use Rattle.jl_op.specs.Trace.{binary_sign, unary_sign}
use Rattle.jl_op.specs.UnaryKinds.{update_kind}
use Rattle.jl_effects.specs.Effects.{Step}
use Rattle.jl_meaning.specs.Expressions.{evaluate}
use Rattle.jl_meaning.specs.FunctionObjects.{FunctionTable}
use Rattle.jl_meaning.specs.Parts.{Context, Part, Answer, ◌>>=◌}
use Rattle.jl_meaning.specs.forms.HookCalls.{binary_of, reads, unary_of, writes}
use Rattle.jl_value.specs.declared.value.Value.{Value}
use Rattle.jl_simulation.specs.HookCalls as weaving
use Rattle.jl_simulation.specs.HookCalls.{name_of}
use Rattle.jl_simulation.specs.Plain.{id_limit}
use Rattle.jl_simulation.proofs.HookCalls.{hook_worded_1, hook_worded_2}
use Rattle.jl_simulation.proofs.HookNames.{asks_binary, asks_unary, form_B, form_R, form_U, form_W, word_B, word_U}
use Rattle.jl_simulation.proofs.Names.{computed_by_hook, read_by_hook, tell_binary, tell_write}
use Rattle.jl_simulation.proofs.Updates.{one_back, tell_update, updated_by_hook}

module _ (table : FunctionTable) (c : Context) where
  read_hook : (x : Text) (id : ℕ) → id < id_limit → (j : ℕ)
      → evaluate table (with_ids j (weaving.read id x)) c ≡ read_by_hook id (j + 2 + 2 + 1 + 1) c x
  read_hook x id small j = hook_worded_1 table c (codes "R") _ form_R id small x (reads x) refl (name_of x) j

  pub computed_hook : (x : Text) (o : BinOp) (id : ℕ) → id + 2 < id_limit → (e : weaving.Expr) (j : ℕ)
      → evaluate table (with_ids j (weaving.write (id + 2) x (weaving.binary_hook (id + 1) o (weaving.read id x) e))) c
      ≡ Step (computed_by_hook id (j + 2 + 2 + 1 + 1 + 2 + 2 + 1 + 1 + 2 + 2 + 1 + 1) c x o
      (evaluate table (with_ids (j + 2 + 2 + 1 + 1 + 2 + 2 + 1 + 1 + id_count (weaving.read id x)) e) c)
      >>= tell_write (id + 2) c x)
  computed_hook x o id small e j =
      let e' : Part (Answer Value) =
      evaluate table (with_ids (j + 2 + 2 + 1 + 1 + 2 + 2 + 1 + 1 + id_count (weaving.read id x)) e) c in
      hook_worded_1 table c (codes "W") _ form_W (id + 2) (omega arith) x (writes x) refl
      (weaving.binary_hook (id + 1) o (weaving.read id x) e) j
      ∙ ap (λ q. Step (q >>= tell_write (id + 2) c x))
      (hook_worded_2 table c (codes "B") asks_binary form_B (id + 1) (omega arith) (binary_sign o) (binary_of o)
      (word_B o)
      (weaving.read id x) e (j + 2 + 2 + 1 + 1)
      ∙ ap (λ q. Step (q >>= tell_binary (id + 1) c o e'))
      (read_hook x id (omega arith) (j + 2 + 2 + 1 + 1 + 2 + 2 + 1 + 1)))

  pub updated_hook : (x : Text) (up : Bool) (id : ℕ) → id + 2 < id_limit → (j : ℕ)
      → evaluate table (with_ids j (weaving.write (id + 2) x
      (weaving.unary_hook (id + 1) (update_kind up) (weaving.read id x)))) c
      ≡ Step (updated_by_hook id (j + 2 + 2 + 1 + 1 + 2 + 2 + 1 + 1 + 2 + 2 + 1 + 1) c x up >>= tell_write (id + 2) c x)
  updated_hook x up id small j =
      hook_worded_1 table c (codes "W") _ form_W (id + 2) (omega arith) x (writes x) refl
      (weaving.unary_hook (id + 1) (update_kind up) (weaving.read id x)) j
      ∙ ap (λ q. Step (q >>= tell_write (id + 2) c x))
      (hook_worded_1 table c (codes "U") asks_unary form_U (id + 1) (omega arith) (unary_sign (update_kind up))
      (unary_of (update_kind up)) (word_U (update_kind up)) (weaving.read id x) (j + 2 + 2 + 1 + 1)
      ∙ ap (λ q. Step (q >>= tell_update (id + 1) c up))
      (read_hook x id (omega arith) (j + 2 + 2 + 1 + 1 + 2 + 2 + 1 + 1)))

  -- after a postfix operator the number is had back
  pub had_back_hook : (up : Bool) (e : weaving.Expr) (j : ℕ)
      → evaluate table (with_ids j (weaving.before_update up false e)) c
      ≡ Step (evaluate table (with_ids (j + 1) e) c >>= one_back j (j + 1 + id_count e) up)
  had_back_hook true e j = refl
  had_back_hook false e j = refl
