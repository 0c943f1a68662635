-- The store of a run: its objects, and the environments in which names are bound (10.2).
use Rattle.std.specs.Prelude.{[], find, is_some, length, slice_index_or, Bool, List, None, Option, ℕ}
use Rattle.std.specs.Str.{bytes_eq}
use Rattle.jl_value.specs.declared.object.ObjId.{ObjId}
use Rattle.jl_value.specs.declared.value.Value.{Value}
use Rattle.jl_heap.specs.Objects.{Name, Objects}

-- a name with its value; an immutable one is the own name of a function expression, or `arguments` in strict code
pub record Binding : Type 0 where
  pub name : Name
  pub value : Value
  pub mutable : Bool

-- a declarative environment (10.2.1.1), with the index of the one around it
pub record Environment : Type 0 where
  pub outer : Option ℕ
  pub bindings : List Binding

-- Environments are named by their index. That with index 0 is the global one, which has no bindings here: they are the
-- properties of the global object (10.2.3).
pub record Store : Type 0 where
  pub heap : Objects
  pub environments : List Environment

-- what stands at an index where no environment is
abbrev pub no_environment : Environment
no_environment = record { outer = None; bindings = [] }

abbrev pub environment_at : Store → ℕ → Environment
environment_at store env = slice_index_or store.environments env no_environment

abbrev pub binding_named : Name → List Binding → Option Binding
binding_named x bindings = find (λ b. bytes_eq b.name x) bindings

abbrev pub binding_of : Store → (env : ℕ) → Name → Option Binding
binding_of store env x = binding_named x (environment_at store env).bindings

-- HasBinding (10.2.1.1.1)
abbrev pub has_binding : Store → (env : ℕ) → Name → Bool
has_binding store env x = is_some (binding_of store env x)

-- the index of the next environment
abbrev pub next_environment : Store → ℕ
next_environment store = length store.environments

-- the address of the next object
abbrev pub next_object : Store → ObjId
next_object store = record { 0 = length store.heap.objects }
