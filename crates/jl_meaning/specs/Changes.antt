-- The changes of a store, each as plain data, and what each makes of a store. A store is changed in no other way.
use Rattle.std.specs.Prelude.{[], if◌then◌else◌, map, nat_lt, slice_set, ◌++◌, ◌∷◌, List, None, Option, Some, ℕ}
use Rattle.std.specs.Str.{bytes_eq}
use Rattle.jl_value.specs.declared.object.Class.{Class}
use Rattle.jl_value.specs.declared.object.ObjId.{ObjId}
use Rattle.jl_value.specs.declared.value.Value.{Value}
use Rattle.jl_heap.specs.Define.{with_new_property}
use Rattle.jl_heap.specs.Define as heaps
use Rattle.jl_heap.specs.Headers.{unmap_argument, without_extensions}
use Rattle.jl_heap.specs.NewObject.{with_new_object}
use Rattle.jl_heap.specs.Objects.{Name, Objects}
use Rattle.jl_heap.specs.Objects as heap_objects
use Rattle.jl_heap.specs.declared.inner.Inner.{Inner}
use Rattle.jl_heap.specs.declared.property.Change.{Change}
use Rattle.jl_heap.specs.declared.property.Prop.{Prop}
use Rattle.jl_meaning.specs.Store.{environment_at, next_environment, Binding, Store}

pub data StoreChange : Type 0 where
  -- a new object comes last, without properties but for the `length` of an array (8.6.2, 15.4.5.2)
  NewObject : Class → (proto : Option ObjId) → Inner → StoreChange
  -- a property that an object doesn't have yet comes last
  NewProperty : ObjId → Name → Prop → StoreChange
  -- [[DefineOwnProperty]] of the stored properties (8.12.9, 15.4.5.1)
  DefineProperty : ObjId → Name → Change → StoreChange
  -- [[Delete]] of the stored properties (8.12.7)
  DeleteProperty : ObjId → Name → StoreChange
  -- an object is extensible no more (8.6.2)
  PreventExtensions : ObjId → StoreChange
  -- an index of an arguments object is mapped to no parameter any more (10.6)
  UnmapIndex : ObjId → (index : ℕ) → StoreChange
  -- a new environment comes last (10.2.2.2)
  NewEnvironment : (outer : ℕ) → StoreChange
  -- a new binding comes last (10.2.1.1.2, 10.2.1.1.7)
  NewBinding : (env : ℕ) → Binding → StoreChange
  -- the binding of a name has another value (10.2.1.1.3)
  SetBinding : (env : ℕ) → Name → Value → StoreChange

abbrev with_heap : Objects → Store → Store
with_heap heap store = record store { heap = heap }

abbrev with_bindings : (env : ℕ) → List Binding → Store → Store
with_bindings env bindings store =
    record store {
      environments = slice_set store.environments env (record (environment_at store env) { bindings = bindings });
    }

-- the bindings, where the one of a name has this value
abbrev pub rebound : Name → Value → List Binding → List Binding
rebound x v bindings = map (λ (b : Binding). if bytes_eq b.name x then record b { value = v } else b) bindings

-- the environment around a new one, if it is there
abbrev pub outer_there : Store → ℕ → Option ℕ
outer_there store env = if nat_lt env (next_environment store) then Some env else None

abbrev with_environment : (outer : ℕ) → Store → Store
with_environment outer store =
    record store {
      environments = store.environments ++ record { outer = outer_there store outer; bindings = [] } ∷ [];
    }

-- the store after a change
abbrev pub apply : StoreChange → Store → Store
apply (NewObject kind proto inner) store = with_heap (with_new_object store.heap kind proto inner) store
apply (NewProperty id x p) store = with_heap (with_new_property store.heap id.0 x p) store
apply (DefineProperty id x change) store = with_heap (heaps.define_own_property store.heap id.0 x change).0 store
apply (DeleteProperty id x) store = with_heap (heap_objects.delete_property store.heap id.0 x).0 store
apply (PreventExtensions id) store = with_heap (without_extensions store.heap id.0) store
apply (UnmapIndex id index) store = with_heap (unmap_argument store.heap id.0 index) store
apply (NewEnvironment outer) store = with_environment outer store
apply (NewBinding env b) store = with_bindings env ((environment_at store env).bindings ++ b ∷ []) store
apply (SetBinding env x v) store = with_bindings env (rebound x v (environment_at store env).bindings) store
