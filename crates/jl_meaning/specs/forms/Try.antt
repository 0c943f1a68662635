-- What is caught, and what counts after a `finally` (12.14).
use Rattle.std.specs.Prelude.{true, ℕ}
use Rattle.jl_value.specs.declared.ending.Completion.{Completion}
use Rattle.jl_value.specs.declared.ending.Completion.TheVariants as completion
use Rattle.jl_value.specs.declared.value.Value.{Value}
use Rattle.jl_heap.specs.Objects.{Name}
use Rattle.jl_op.specs.declared.op.Op.TheVariants as op
use Rattle.jl_meaning.specs.Changes.{NewBinding, NewEnvironment}
use Rattle.jl_meaning.specs.Noting.{note_value, performs}
use Rattle.jl_meaning.specs.Parts.{change_store, give, look, ◌>>=◌, Answer, Part}
use Rattle.jl_meaning.specs.Store.{next_environment}

-- the environment of a `catch` block, in which the caught value is bound
abbrev pub enter_catch : (env : ℕ) → Name → Value → Part (Answer ℕ)
enter_catch env x v = do
  store ← look
  _ ← change_store (NewEnvironment env)
  _ ← change_store (NewBinding (next_environment store) (record { name = x; value = v; mutable = true }))
  give (next_environment store)

-- a `catch` begins: what it has caught is bound, and noted before the statements of the block
unfoldable pub begin_catch : (id env : ℕ) → Name → Value → Part (Answer ℕ)
begin_catch id env x v = do
  inside ← enter_catch env x v
  _ ← note_value performs id (op.Catch x) v
  give inside

-- after a `finally` that completes normally, what completed before it counts
abbrev pub unless_abrupt : (before : Completion) → Completion → Completion
unless_abrupt before completion.Normal = before
unless_abrupt before how = how
