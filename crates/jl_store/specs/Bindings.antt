-- Steps of declarations.
use Rattle.std.specs.Prelude.{[], if◌then◌else◌, true, ◌∷◌, List, ℕ}
use Rattle.jl_value.specs.declared.value.Value.{Value}
use Rattle.jl_value.specs.declared.value.Value.TheVariants as value
use Rattle.jl_heap.specs.Objects.{Name}
use Rattle.jl_meaning.specs.Changes.{NewBinding, NewEnvironment}
use Rattle.jl_meaning.specs.DeclarationBinding.{create_global}
use Rattle.jl_meaning.specs.Intrinsics.{global_object}
use Rattle.jl_meaning.specs.Properties.{has_property}
use Rattle.jl_meaning.specs.Parts.{change_store, give, look, ◌>>=◌, Algorithm}
use Rattle.jl_meaning.specs.Store.{has_binding, next_environment}

-- one variable, which is undefined unless it is bound already (10.5, step 8)
abbrev pub declare_variable : (env : ℕ) → Name → Algorithm (Unit {0})
declare_variable env x = do
  store ← look
  if has_binding store env x
      then give tt
      else change_store (NewBinding env (record { name = x; value = value.Undefined; mutable = true }))

-- one variable of a program, which is undefined unless the global object has a property of its name (10.5, step 8)
abbrev pub declare_global_variable : Name → Algorithm (Unit {0})
declare_global_variable x = do
  store ← look
  if has_property store global_object.0 x then give tt else create_global x

abbrev pub first_or_undefined : List Value → Value
first_or_undefined [] = value.Undefined
first_or_undefined (v ∷ vs) = v

abbrev pub after_first : List Value → List Value
after_first [] = []
after_first (v ∷ vs) = vs

-- the environment of a `catch` block, as an algorithm: `enter_catch` of the language (12.14)
abbrev pub catch_environment : (env : ℕ) → Name → Value → Algorithm ℕ
catch_environment env x v = do
  store ← look
  _ ← change_store (NewEnvironment env)
  _ ← change_store (NewBinding (next_environment store) (record { name = x; value = v; mutable = true }))
  give (next_environment store)
