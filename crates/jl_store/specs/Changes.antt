-- A store after a change, as one word; and objects that are made property by property.
use Rattle.std.specs.Prelude.{length, map, ◌<◌, ◌≡◌, IsNone, List, ℕ}
use Rattle.jl_props.specs.declared.entries.Entry.{Entry}
use Rattle.jl_value.specs.declared.object.ObjId.{ObjId}
use Rattle.jl_value.specs.declared.value.Value.{Value}
use Rattle.jl_heap.specs.Objects.{object_at, own, Name}
use Rattle.jl_heap.specs.declared.property.Prop.{Prop}
use Rattle.jl_meaning.specs.Changes.{apply, SetBinding, StoreChange}
use Rattle.jl_meaning.specs.Store.{Store}
use Rattle.jl_store.specs.declared.environments.Rebinding.{Rebinding}
use Rattle.jl_store.specs.declared.environments.Rebinding.TheVariants.{Changed, Immutable, Unbound}

-- the store after a change: `apply`, where nobody has to look into what it makes
unfoldable pub after : StoreChange → Store → Store
after c store = apply c store

-- the store after another value for a name, by what comes of it
abbrev pub after_rebinding : Rebinding → (env : ℕ) → Name → Value → Store → Store
after_rebinding Changed env x v store = after (SetBinding env x v) store
after_rebinding Immutable env x v store = store
after_rebinding Unbound env x v store = store

-- an object is there and has no property of its own that is stored under this name
pub record IsFree (store : Store) (id : ObjId) (x : Name) : Type 0 where
  pub there : id.0 < length store.heap.objects
  pub free : IsNone (own store.heap id.0 x)

-- an object is there, and these are the names of its stored properties
pub record HasNames (store : Store) (id : ObjId) (names : List Name) : Type 0 where
  pub there : id.0 < length store.heap.objects
  pub named : map (λ (e : Entry Prop). e.name) (object_at store.heap id.0).properties ≡ names
