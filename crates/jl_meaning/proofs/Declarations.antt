-- What functions that are made alike declare, and bodies that have the same names, whatever their statements are.
use Rattle.std.proofs.Common.{◌≡◌, ℕ, Bool, Some, not, ◌&&◌, List, ap, ap₂, ◌∙◌}
use Rattle.std.specs.Prelude.{if◌then◌else◌, length}
use mathlib.Core.Path.{fun_ext}
use Rattle.jl_ast.specs.Table.{number_of}
use Rattle.jl_ast.specs.Tree as tree
use Rattle.jl_ast.specs.Tree.{Forest}
use Rattle.jl_ast.proofs.Congruences.{ap₃}
use Rattle.jl_scope.specs.Hoisting.{variables}
use Rattle.jl_scope.specs.Mentions.{mentions}
use Rattle.jl_scope.specs.Names.{arguments_name}
use Rattle.jl_value.specs.declared.object.ObjId.{ObjId}
use Rattle.jl_value.specs.declared.value.Value.{Value}
use Rattle.jl_heap.specs.Objects.{Name}
use Rattle.jl_meaning.specs.Changes.{NewEnvironment}
use Rattle.jl_meaning.specs.DeclarationBinding.{bind_arguments, bind_parameters, declare_body, declare_function}
use Rattle.jl_meaning.specs.DeclarationBinding.{declare_functions, declare_global_function, declare_global_functions}
use Rattle.jl_meaning.specs.DeclarationBinding.{declare_global_variables, declare_program, declare_variables}
use Rattle.jl_meaning.specs.FunctionObjects.{function_body, function_params}
use Rattle.jl_meaning.specs.Parts.{change_store, give, look, ◌>>=◌, Algorithm, Call, Code, Context, Func}
use Rattle.jl_meaning.specs.Store.{has_binding, next_environment}
use Rattle.jl_meaning.specs.forms.Functions.{enter_function}
use Rattle.jl_meaning.proofs.MadeFunctions.{make_same, MadeAlike}

-- one function more is declared
pub one_more : {f f' : Func} → MadeAlike f f' → (l l' : Forest ℕ tree.func) (c : Context)
    → declare_functions l c ≡ declare_functions l' c
    → declare_functions (tree.more f l) c ≡ declare_functions (tree.more f' l') c
one_more alike l l' c same =
    ap₂ (λ p q. p >>= q) (make_same alike c.strict c.env)
    (fun_ext (λ id. ap₂ (λ x q. declare_function c.env x id >>= (λ _. q)) alike.name same))

pub one_more_global : {f f' : Func} → MadeAlike f f' → (l l' : Forest ℕ tree.func) (c : Context)
    → declare_global_functions l c ≡ declare_global_functions l' c
    → declare_global_functions (tree.more f l) c ≡ declare_global_functions (tree.more f' l') c
one_more_global alike l l' c same =
    ap₂ (λ p q. p >>= q) (make_same alike c.strict c.env)
    (fun_ext (λ id. ap₂ (λ x q. declare_global_function c.strict x id >>= (λ _. q)) alike.name same))

-- what a body binds, by what it has
abbrev binding : (functions : Algorithm (Unit {0})) → (mentioned : Bool) → (names : List Name) → (strict : Bool)
    → (callee : ObjId) → List Name → List Value → Context → Algorithm (Unit {0})
binding functions mentioned names strict callee params args c = do
  _ ← bind_parameters c.env params args
  _ ← functions
  _ ← (do
    store ← look
    if mentioned && not (has_binding store c.env arguments_name)
        then bind_arguments strict callee c.env params args
        else give tt)
  declare_variables c.env names

abbrev pub DeclaredAlike : Code → Code → Type 0
DeclaredAlike b b' = (strict : Bool) (callee : ObjId) (params : List Name) (args : List Value) (c : Context)
    → declare_body b strict callee params args c ≡ declare_body b' strict callee params args c

pub body_declared : (s s' : Bool) (fs fs' : Forest ℕ tree.func) (l l' : Forest ℕ tree.stmt)
    → ((c : Context) → declare_functions fs c ≡ declare_functions fs' c)
    → mentions arguments_name (tree.body s fs l) ≡ mentions arguments_name (tree.body s' fs' l')
    → variables (tree.body s fs l) ≡ variables (tree.body s' fs' l')
    → DeclaredAlike (tree.body s fs l) (tree.body s' fs' l')
unfolding declare_body
body_declared s s' fs fs' l l' functions mentioned names strict callee params args c =
    ap₃ (λ p m xs. binding p m xs strict callee params args c) (functions c) mentioned names

-- a function is entered like another one
pub enter_same : {f f' : Func} → MadeAlike f f' → DeclaredAlike (function_body f) (function_body f')
    → (strict : Bool) (env : ℕ) (this : Value) (call : Call)
    → enter_function (record { func = f; strict = strict }) env this call
    ≡ enter_function (record { func = f'; strict = strict }) env this call
unfolding enter_function
enter_same {f} {f'} alike declared strict env this call =
    let inside : ℕ → ℕ → Context = λ number at. record {
      env = at;
      strict = strict;
      call = Some (record { function = number; this = this; args = length call.args; by_new = call.by_new });
    } in
    let entering : ℕ → List Name → (List Name → Context → Algorithm (Unit {0})) → Algorithm Context =
    λ number names declare. (look >>= (λ store. (change_store (NewEnvironment env) >>= (λ _.
    (declare names (inside number (next_environment store)) >>= (λ _.
    give (inside number (next_environment store)))))))) in
    ap₂ (λ m xs. entering m xs (λ names c. declare_body (function_body f) strict call.callee names call.args c))
    alike.number alike.params
    ∙ ap (entering (number_of f') (function_params f'))
    (fun_ext (λ names. fun_ext (λ c. declared strict call.callee names call.args c)))

-- a program declares what another one does
pub program_same : (s s' : Bool) (fs fs' : Forest ℕ tree.func) (l l' : Forest ℕ tree.stmt) (c : Context)
    → declare_global_functions fs c ≡ declare_global_functions fs' c
    → variables (tree.body s fs l) ≡ variables (tree.body s' fs' l')
    → declare_program (tree.body s fs l) c ≡ declare_program (tree.body s' fs' l') c
unfolding declare_program
program_same s s' fs fs' l l' c functions names =
    ap₂ (λ p xs. p >>= (λ _. declare_global_variables xs)) functions names
