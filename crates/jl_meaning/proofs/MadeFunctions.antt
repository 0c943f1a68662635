-- Functions that are made alike, whatever their bodies do.
use Rattle.std.proofs.Common.{◌≡◌, ℕ, Bool, false, Option, Some, None, ap, ◌∙◌}
use Rattle.std.specs.Prelude.{length}
use mathlib.Core.Path.{fun_ext}
use Rattle.jl_ast.specs.Table.{number_of}
use Rattle.jl_ast.proofs.Congruences.{ap₃}
use Rattle.jl_value.specs.declared.object.ObjId.{ObjId}
use Rattle.jl_value.specs.declared.value.Value.TheVariants as value
use Rattle.jl_heap.specs.Objects.{Name}
use Rattle.jl_meaning.specs.Changes.{NewBinding, NewEnvironment}
use Rattle.jl_meaning.specs.FunctionObjects.{create_function, function_name, function_params, is_strict}
use Rattle.jl_meaning.specs.FunctionObjects.{make_function, make_function_expression, make_named}
use Rattle.jl_meaning.specs.Parts.{change_store, give, look, ◌>>=◌, Algorithm, Func}
use Rattle.jl_meaning.specs.Store.{next_environment}

-- a function has the number, the name and the parameters of another one, and is as strict
pub record MadeAlike (f f' : Func) : Type 0 where
  pub number : number_of f ≡ number_of f'
  pub name : function_name f ≡ function_name f'
  pub params : function_params f ≡ function_params f'
  pub strict : (outer : Bool) → is_strict outer f ≡ is_strict outer f'

pub make_same : {f f' : Func} → MadeAlike f f' → (outer : Bool) (env : ℕ)
    → make_function outer env f ≡ make_function outer env f'
make_same alike outer env =
    ap₃ (λ strict number names. create_function strict number (length names) env) (alike.strict outer) alike.number
    alike.params

-- a function that is made with its name, in an environment of its own
abbrev made_with_name : (env : ℕ) → Name → (made : ℕ → Algorithm ObjId) → Algorithm ObjId
made_with_name env x made = do
  store ← look
  _ ← change_store (NewEnvironment env)
  id ← made (next_environment store)
  _ ← change_store (NewBinding (next_environment store) (record { name = x; value = value.Obj id; mutable = false }))
  give id

named_same : {f f' : Func} → MadeAlike f f' → (outer : Bool) (env : ℕ) (name : Option Name)
    → make_named outer env f name ≡ make_named outer env f' name
named_same alike outer env None = make_same alike outer env
named_same alike outer env (Some x) = ap (made_with_name env x) (fun_ext (λ at. make_same alike outer at))

pub expression_same : {f f' : Func} → MadeAlike f f' → (outer : Bool) (env : ℕ)
    → make_function_expression outer env f ≡ make_function_expression outer env f'
unfolding make_function_expression
expression_same {f} {f'} alike outer env =
    named_same alike outer env (function_name f) ∙ ap (make_named outer env f') alike.name
