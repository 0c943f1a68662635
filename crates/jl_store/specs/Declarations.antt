-- Declarations of a body whose facts are at hand.
use Rattle.std.specs.Prelude.{if◌then◌else◌, not, ◌&&◌, ◌≡◌, Bool, List, ℕ}
use Rattle.jl_scope.specs.Hoisting.{variables}
use Rattle.jl_scope.specs.Mentions.{mentions}
use Rattle.jl_scope.specs.Names.{arguments_name}
use Rattle.jl_value.specs.declared.object.ObjId.{ObjId}
use Rattle.jl_value.specs.declared.value.Value.{Value}
use Rattle.jl_heap.specs.Objects.{Name}
use Rattle.jl_meaning.specs.DeclarationBinding.{bind_arguments}
use Rattle.jl_meaning.specs.Parts.{give, look, ◌>>=◌, Algorithm, Code}
use Rattle.jl_meaning.specs.Store.{has_binding}

-- `arguments` is bound where it is mentioned, and neither a parameter nor a function has that name (10.5, step 7)
abbrev pub bind_arguments_where : (mentioned strict : Bool) → (callee : ObjId) → (env : ℕ) → List Name → List Value
    → Algorithm (Unit {0})
bind_arguments_where mentioned strict callee env params args = do
  store ← look
  if mentioned && not (has_binding store env arguments_name)
      then bind_arguments strict callee env params args
      else give tt

-- what a body declares is this: its variables, and whether it mentions `arguments`
pub record Declares (b : Code) (names : List Name) (mentioned : Bool) : Type 0 where
  pub are_variables : names ≡ variables b
  pub is_mentioned : mentioned ≡ mentions arguments_name b
