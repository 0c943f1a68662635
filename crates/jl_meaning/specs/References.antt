-- Names as references: where they are bound, and what is got, put and deleted there (8.7, 10.2, 11.1.2).
use Rattle.std.specs.Option.{option_map_or}
use Rattle.std.specs.Prelude.{codes, false, if◌then◌else◌, suc, true, zero, Bool, List, None, Option, Some, ℕ}
use Rattle.jl_value.specs.declared.value.Value.{Value}
use Rattle.jl_value.specs.declared.value.Value.TheVariants as value
use Rattle.jl_conv.specs.Conversions.{type_text}
use Rattle.jl_heap.specs.Objects.{Name}
use Rattle.jl_meaning.specs.Changes.{SetBinding}
use Rattle.jl_meaning.specs.Errors.{require, throw_not_defined}
use Rattle.jl_meaning.specs.Getting.{get, is_callable}
use Rattle.jl_meaning.specs.Intrinsics.{global_object}
use Rattle.jl_meaning.specs.Parts.{change_store, give, look, ◌>>=◌, Algorithm}
use Rattle.jl_meaning.specs.Properties.{has_property}
use Rattle.jl_meaning.specs.Putting.{delete, put}
use Rattle.jl_meaning.specs.Store.{binding_of, environment_at, has_binding, Binding, Store}

-- what a name refers to: a binding of a declarative environment, a property of the global object, or nothing (8.7)
pub data Reference : Type 0 where
  in_environment : (env : ℕ) → Reference
  on_global_object : Reference
  unresolvable : Reference

-- the global environment binds the names of the global object's properties (10.2.1.2.1)
abbrev pub global_reference : Store → Name → Reference
global_reference store x = if has_property store global_object.0 x then on_global_object else unresolvable

-- in this environment, or where the name is bound outside of that
abbrev pub reference_from : Store → (env : ℕ) → Name → (outside : Reference) → Reference
reference_from store env x outside = if has_binding store env x then in_environment env else outside

-- GetIdentifierReference (10.2.2.1), where at most so many environments are around this one
abbrev pub reference_within : ℕ → Store → (env : ℕ) → Name → Reference
reference_within zero store env x = reference_from store env x (global_reference store x)
reference_within (suc more) store env x =
    reference_from store env x
    (option_map_or (λ outer. reference_within more store outer x) (environment_at store env).outer
    (global_reference store x))

-- GetIdentifierReference (10.2.2.1); an environment has a greater index than the one around it
unfoldable pub identifier_reference : Store → (env : ℕ) → Name → Reference
identifier_reference store env x = reference_within env store env x

-- identifier resolution (10.3.1)
abbrev pub resolve : (env : ℕ) → Name → Algorithm Reference
resolve env x = do
  store ← look
  give (identifier_reference store env x)

-- GetBindingValue (10.2.1.1.4)
abbrev pub binding_value : Option Binding → Value
binding_value (Some b) = b.value
binding_value None = value.Undefined

-- GetValue of a name (8.7.1, 10.2.1.2.4)
unfoldable pub get_value : Name → Reference → Algorithm Value
get_value x (in_environment env) = do
  store ← look
  give (binding_value (binding_of store env x))
get_value x on_global_object = get (value.Obj global_object) x
get_value x unresolvable = throw_not_defined x

-- the name is resolved, and its value is got (11.1.2, 8.7.1)
unfoldable pub get_name : (env : ℕ) → Name → Algorithm Value
get_name env x = do
  reference ← resolve env x
  get_value x reference

-- SetMutableBinding (10.2.1.1.3): a binding that can't be changed stays, and in strict code that throws
abbrev pub set_mutable_binding : (strict : Bool) → (env : ℕ) → Name → Value → Option Binding → Algorithm (Unit {0})
set_mutable_binding strict env x v (Some b) =
    if b.mutable then change_store (SetBinding env x v)
    else require (if strict then false else true) (codes "cannot write")
set_mutable_binding strict env x v None = give tt

-- PutValue to a name (8.7.2)
unfoldable pub put_value : (strict : Bool) → Name → Value → Reference → Algorithm (Unit {0})
put_value strict x v (in_environment env) = do
  store ← look
  set_mutable_binding strict env x v (binding_of store env x)
put_value strict x v on_global_object = put strict (value.Obj global_object) x v
put_value strict x v unresolvable =
    if strict then throw_not_defined x else put false (value.Obj global_object) x v

-- the name is resolved, and a value is put (8.7.2)
unfoldable pub put_name : (strict : Bool) → (env : ℕ) → Name → Value → Algorithm (Unit {0})
put_name strict env x v = do
  reference ← resolve env x
  put_value strict x v reference

-- the type of what a name holds, which is undefined where nothing binds it (11.4.3)
abbrev pub type_of_reference : Name → Reference → Algorithm (List ℕ)
type_of_reference x unresolvable = give (codes "undefined")
type_of_reference x reference = do
  v ← get_value x reference
  store ← look
  give (type_text v (is_callable store.heap v))

unfoldable pub type_of_name : (env : ℕ) → Name → Algorithm (List ℕ)
type_of_name env x = do
  reference ← resolve env x
  type_of_reference x reference

-- `delete` of a name (11.4.1, step 5): DeleteBinding refuses declarative bindings (10.2.1.1.5)
abbrev pub delete_reference : (strict : Bool) → Name → Reference → Algorithm Bool
delete_reference strict x (in_environment env) = give false
delete_reference strict x on_global_object = delete strict (value.Obj global_object) x
delete_reference strict x unresolvable = give true

unfoldable pub delete_name : (strict : Bool) → (env : ℕ) → Name → Algorithm Bool
delete_name strict env x = do
  reference ← resolve env x
  delete_reference strict x reference
