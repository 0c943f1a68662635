-- What is bound before code runs: Declaration Binding Instantiation (10.5), of functions and of the program.
use Rattle.std.specs.Prelude.{[], codes, false, if◌then◌else◌, not, true, ◌&&◌, ◌∷◌, Bool, List, None, Option, Some}
use Rattle.std.specs.Prelude.{ℕ}
use Rattle.jl_ast.specs.Tree.{Forest}
use Rattle.jl_ast.specs.Tree as tree
use Rattle.jl_scope.specs.Hoisting.{variables}
use Rattle.jl_scope.specs.Mentions.{mentions}
use Rattle.jl_scope.specs.Names.{arguments_name}
use Rattle.jl_value.specs.declared.object.ObjId.{ObjId}
use Rattle.jl_value.specs.declared.value.Value.{Value}
use Rattle.jl_value.specs.declared.value.Value.TheVariants as value
use Rattle.jl_heap.specs.Objects.{Name}
use Rattle.jl_heap.specs.Property.{is_configurable}
use Rattle.jl_heap.specs.declared.property.Prop.TheVariants.{Plain}
use Rattle.jl_meaning.specs.ArgumentsObject.{create_arguments_object}
use Rattle.jl_meaning.specs.Changes.{NewBinding, SetBinding}
use Rattle.jl_meaning.specs.Defining.{define_own_property, no_change}
use Rattle.jl_meaning.specs.Errors.{require}
use Rattle.jl_meaning.specs.FunctionObjects.{function_name, make_function}
use Rattle.jl_meaning.specs.Intrinsics.{global_object}
use Rattle.jl_meaning.specs.Parts.{change_store, give, look, ◌>>=◌, Algorithm, Code, Context}
use Rattle.jl_meaning.specs.Properties.{get_property, has_property, Property}
use Rattle.jl_meaning.specs.Putting.{put}
use Rattle.jl_meaning.specs.Store.{has_binding}

-- a binding that can be changed is there, and has this value (10.5: HasBinding, CreateMutableBinding,
-- SetMutableBinding)
abbrev pub declare_binding : (env : ℕ) → Name → Value → Algorithm (Unit {0})
declare_binding env x v = do
  store ← look
  if has_binding store env x
      then change_store (SetBinding env x v)
      else change_store (NewBinding env (record { name = x; value = v; mutable = true }))

-- each parameter has the value of its argument, or is undefined; where a name is there twice, the last one counts
-- (step 4)
abbrev pub bind_parameters : (env : ℕ) → List Name → List Value → Algorithm (Unit {0})
bind_parameters env [] args = give tt
bind_parameters env (x ∷ xs) [] = do
  _ ← declare_binding env x value.Undefined
  bind_parameters env xs []
bind_parameters env (x ∷ xs) (v ∷ vs) = do
  _ ← declare_binding env x v
  bind_parameters env xs vs

-- a declared function in the environment of a function (step 5)
abbrev pub declare_function : (env : ℕ) → Option Name → ObjId → Algorithm (Unit {0})
declare_function env None f = give tt
declare_function env (Some x) f = declare_binding env x (value.Obj f)

abbrev pub declare_functions : Forest ℕ tree.func → Context → Algorithm (Unit {0})
declare_functions tree.end c = give tt
declare_functions (tree.more f l) c = do
  id ← make_function c.strict c.env f
  _ ← declare_function c.env (function_name f) id
  declare_functions l c

-- `arguments` is bound, and in strict code for good (step 7)
abbrev pub bind_arguments : (strict : Bool) → (callee : ObjId) → (env : ℕ) → List Name → List Value
    → Algorithm (Unit {0})
bind_arguments strict callee env params args = do
  id ← create_arguments_object strict callee env params args
  change_store (NewBinding env (record { name = arguments_name; value = value.Obj id; mutable = not strict }))

-- the same where the body mentions `arguments`, and neither a parameter nor a function has that name
abbrev pub bind_arguments_if_used : Code → (strict : Bool) → (callee : ObjId) → (env : ℕ) → List Name → List Value
    → Algorithm (Unit {0})
bind_arguments_if_used b strict callee env params args = do
  store ← look
  if mentions arguments_name b && not (has_binding store env arguments_name)
      then bind_arguments strict callee env params args
      else give tt

-- the variables of a function that aren't bound yet are undefined (step 8)
abbrev pub declare_variables : (env : ℕ) → List Name → Algorithm (Unit {0})
declare_variables env [] = give tt
declare_variables env (x ∷ xs) = do
  store ← look
  _ ← (if has_binding store env x then give tt
      else change_store (NewBinding env (record { name = x; value = value.Undefined; mutable = true })))
  declare_variables env xs

-- Declaration Binding Instantiation of a function, in the environment that it has been given
unfoldable pub declare_body : Code → (strict : Bool) → (callee : ObjId) → List Name → List Value → Context
    → Algorithm (Unit {0})
declare_body (tree.body s fs l) strict callee params args c = do
  _ ← bind_parameters c.env params args
  _ ← declare_functions fs c
  _ ← bind_arguments_if_used (tree.body s fs l) strict callee c.env params args
  declare_variables c.env (variables (tree.body s fs l))

-- a property of the global object for a name that is declared: it can't be deleted (10.2.1.2.2)
abbrev pub create_global : Name → Algorithm (Unit {0})
create_global x = do
  done ← define_own_property global_object x (record no_change {
    value = Some value.Undefined;
    writable = Some true;
    enumerable = Some true;
    configurable = Some false;
  })
  require done (codes "cannot define")

-- a property that a declared function may take over: it can be written and enumerated (step 5.e)
abbrev pub can_be_taken_over : Option Property → Bool
can_be_taken_over (Some (_, Plain _ writable enumerable _)) = writable && enumerable
can_be_taken_over _ = false

abbrev pub can_be_made_anew : Option Property → Bool
can_be_made_anew None = true
can_be_made_anew (Some (_, p)) = is_configurable p

abbrev pub prepare_global : Name → Option Property → Algorithm (Unit {0})
prepare_global x property =
    if can_be_made_anew property then create_global x
    else require (can_be_taken_over property) (codes "cannot define")

-- a declared function of the program (step 5)
abbrev pub declare_global_function : (strict : Bool) → Option Name → ObjId → Algorithm (Unit {0})
declare_global_function strict None f = give tt
declare_global_function strict (Some x) f = do
  store ← look
  _ ← prepare_global x (get_property store global_object.0 x)
  put strict (value.Obj global_object) x (value.Obj f)

abbrev pub declare_global_functions : Forest ℕ tree.func → Context → Algorithm (Unit {0})
declare_global_functions tree.end c = give tt
declare_global_functions (tree.more f l) c = do
  id ← make_function c.strict c.env f
  _ ← declare_global_function c.strict (function_name f) id
  declare_global_functions l c

-- a variable of the program is undefined where the global object has no property of its name yet (step 8)
abbrev pub declare_global_variables : List Name → Algorithm (Unit {0})
declare_global_variables [] = give tt
declare_global_variables (x ∷ xs) = do
  store ← look
  _ ← (if has_property store global_object.0 x then give tt else create_global x)
  declare_global_variables xs

-- Declaration Binding Instantiation of the program
unfoldable pub declare_program : Code → Context → Algorithm (Unit {0})
declare_program (tree.body s fs l) c = do
  _ ← declare_global_functions fs c
  declare_global_variables (variables (tree.body s fs l))
