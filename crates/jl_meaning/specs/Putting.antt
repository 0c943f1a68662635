-- Putting and deleting properties (8.7.2, 8.12.5, 8.12.7, 10.6).
use Rattle.std.specs.Prelude.{[], codes, false, if◌then◌else◌, is_some, true, ◌&&◌, ◌∷◌, Bool, Option, Some}
use Rattle.jl_value.specs.Indices.{index_of}
use Rattle.jl_value.specs.declared.object.ObjId.{ObjId}
use Rattle.jl_value.specs.declared.value.Value.{Value}
use Rattle.jl_value.specs.declared.value.Value.TheVariants as value
use Rattle.jl_heap.specs.Objects.{object_at, Name}
use Rattle.jl_heap.specs.Objects as heap_objects
use Rattle.jl_heap.specs.declared.property.Prop.TheVariants.{Accessor, Plain}
use Rattle.jl_meaning.specs.Changes.{DeleteProperty}
use Rattle.jl_meaning.specs.Defining.{define_own_property, end_mapping, plain_change, value_change}
use Rattle.jl_meaning.specs.Errors.{require}
use Rattle.jl_meaning.specs.Parts.{call, change_store, give, look, ◌>>=◌, Algorithm}
use Rattle.jl_meaning.specs.Properties.{can_put, get_property, mapped_parameter, property_of_value, Property}
use Rattle.jl_meaning.specs.Store.{Store}

-- a put where this property was found, or none (8.12.5, steps 3 to 6): whether it is done
abbrev pub put_found : ObjId → Name → Value → Option Property → Algorithm Bool
put_found id x v (Some (true, Plain _ _ _ _)) = define_own_property id x (value_change v)
put_found id x v (Some (_, Accessor _ (Some setter) _ _)) = do
  _ ← call setter (value.Obj id) (v ∷ [])
  give true
put_found id x v _ = define_own_property id x (plain_change v)

abbrev pub put_if : (can_put : Bool) → ObjId → Name → Value → Option Property → Algorithm Bool
put_if true id x v property = put_found id x v property
put_if false id x v property = give false

-- a put on a base that is no object: only a setter takes it (8.7.2)
abbrev pub put_on_primitive : (base : Value) → Value → Option Property → Algorithm Bool
put_on_primitive base v (Some (_, Accessor _ (Some setter) _ _)) = do
  _ ← call setter base (v ∷ [])
  give true
put_on_primitive base v _ = give false

abbrev pub put_on : Store → (base : Value) → Name → Value → Algorithm Bool
put_on store (value.Obj id) x v =
    let property = get_property store id.0 x in
    put_if (can_put (object_at store.heap id.0).extensible property) id x v property
put_on store base x v = put_on_primitive base v (property_of_value store base x)

-- [[Put]] (8.12.5), and that of a base that is no object (8.7.2): it throws, if asked to, where it isn't done
unfoldable pub put : (throwing : Bool) → (base : Value) → Name → Value → Algorithm (Unit {0})
put throwing base x v = do
  store ← look
  done ← put_on store base x v
  require (if throwing then done else true) (codes "cannot write")

-- a mapped index that has been deleted is mapped no more (10.6, [[Delete]])
abbrev pub end_mapping_if : (ends : Bool) → ObjId → Name → Algorithm (Unit {0})
end_mapping_if true id x = end_mapping id (index_of x)
end_mapping_if false id x = give tt

-- an own property of a value that is no object, if it has one, can't be deleted
abbrev pub is_free : Option Property → Bool
is_free (Some (true, p)) = false
is_free _ = true

-- a stored property is deleted, if it can be: whether the name is free afterwards
abbrev pub delete_stored : (free mapped : Bool) → ObjId → Name → Algorithm Bool
delete_stored free mapped id x = do
  _ ← change_store (DeleteProperty id x)
  _ ← end_mapping_if (free && mapped) id x
  give free

abbrev pub delete_on : (base : Value) → Name → Algorithm Bool
delete_on (value.Obj id) x = do
  store ← look
  delete_stored (heap_objects.delete_property store.heap id.0 x).1 (is_some (mapped_parameter store id.0 x)) id x
delete_on base x = do
  store ← look
  give (is_free (property_of_value store base x))

-- [[Delete]] (8.12.7, 10.6), and that of a base that is no object (11.4.1): it throws, if asked to, where the property
-- stays
unfoldable pub delete : (throwing : Bool) → (base : Value) → Name → Algorithm Bool
delete throwing base x = do
  free ← delete_on base x
  _ ← require (if throwing then free else true) (codes "cannot delete")
  give free
