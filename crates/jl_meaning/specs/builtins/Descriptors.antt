-- Property descriptors as objects of a script (8.10.4, 8.10.5), and the own properties of an object.
use Rattle.std.specs.Option.{option_map_or}
use Rattle.std.specs.Prelude.{[], codes, false, filter, if◌then◌else◌, map, option_map, true, ◌&&◌, ◌∷◌, Bool, List}
use Rattle.std.specs.Prelude.{None, Option, Some, ℕ}
use Rattle.jl_value.specs.declared.object.ObjId.{ObjId}
use Rattle.jl_value.specs.declared.value.Value.{Value}
use Rattle.jl_value.specs.declared.value.Value.TheVariants as value
use Rattle.jl_conv.specs.Conversions.{truth_of}
use Rattle.jl_heap.specs.Objects.{Name}
use Rattle.jl_heap.specs.Property.{is_accessor, is_data, is_enumerable}
use Rattle.jl_heap.specs.declared.property.Change.{Change}
use Rattle.jl_heap.specs.declared.property.Prop.{Prop}
use Rattle.jl_heap.specs.declared.property.Prop.TheVariants.{Accessor, Plain}
use Rattle.jl_meaning.specs.Errors.{throw_type_error}
use Rattle.jl_meaning.specs.Getting.{get}
use Rattle.jl_meaning.specs.Parts.{add_property, give, look, ◌>>=◌, Algorithm, Visit}
use Rattle.jl_meaning.specs.Properties.{get_own_property, has_property}
use Rattle.jl_meaning.specs.Store.{Store}
use Rattle.jl_meaning.specs.builtins.Arguments.{give_object, need_function, need_object}
use Rattle.jl_meaning.specs.forms.Literals.{new_plain_object}
use Rattle.jl_meaning.specs.forms.Loops.{own_visits}

-- the names of an object's own properties: the units of a String object, and then the stored ones by creation
abbrev pub own_names : Store → (address : ℕ) → List Name
own_names store address = map (λ (v : Visit). v.name) (own_visits store.heap address)

abbrev pub has_enumerable : Store → (address : ℕ) → Name → Bool
has_enumerable store address x = option_map_or is_enumerable (get_own_property store address x) false

abbrev pub enumerable_names : Store → (address : ℕ) → List Name
enumerable_names store address = filter (has_enumerable store address) (own_names store address)

-- the field of a descriptor's object, if it has one (8.10.5, steps 3 to 8)
abbrev pub get_if : (there : Bool) → ObjId → Name → Algorithm (Option Value)
get_if true id x = do
  v ← get (value.Obj id) x
  give (Some v)
get_if false id x = give None

abbrev pub field : ObjId → Name → Algorithm (Option Value)
field id x = do
  store ← look
  get_if (has_property store id.0 x) id x

-- the same as a Boolean
abbrev pub truth_field : ObjId → Name → Algorithm (Option Bool)
truth_field id x = do
  v ← field id x
  give (option_map truth_of v)

-- a function, or undefined (8.10.5, steps 7 and 8)
abbrev pub accessor_of : Option Value → Algorithm (Option (Option ObjId))
accessor_of None = give None
accessor_of (Some value.Undefined) = give (Some None)
accessor_of (Some v) = do
  f ← need_function v
  give (Some (Some f))

abbrev pub accessor_field : ObjId → Name → Algorithm (Option (Option ObjId))
accessor_field id x = do
  v ← field id x
  accessor_of v

-- a change isn't data and accessor at once (8.10.5, step 9)
abbrev pub of_one_kind : Change → Algorithm Change
of_one_kind change =
    if is_data change && is_accessor change then throw_type_error (codes "bad descriptor") else give change

-- ToPropertyDescriptor (8.10.5)
abbrev pub to_property_descriptor : Value → Algorithm Change
to_property_descriptor v = do
  id ← need_object v
  enumerable ← truth_field id (codes "enumerable")
  configurable ← truth_field id (codes "configurable")
  v ← field id (codes "value")
  writable ← truth_field id (codes "writable")
  getter ← accessor_field id (codes "get")
  setter ← accessor_field id (codes "set")
  of_one_kind (record {
    value = v;
    writable = writable;
    get = getter;
    set = setter;
    enumerable = enumerable;
    configurable = configurable;
  })

-- a property as a change that gives all of it
abbrev pub change_of : Prop → Change
change_of (Plain v writable enumerable configurable) = record {
  value = Some v;
  writable = Some writable;
  get = None;
  set = None;
  enumerable = Some enumerable;
  configurable = Some configurable;
}
change_of (Accessor getter setter enumerable configurable) = record {
  value = None;
  writable = None;
  get = Some getter;
  set = Some setter;
  enumerable = Some enumerable;
  configurable = Some configurable;
}

abbrev pub accessor_value : Option ObjId → Value
accessor_value None = value.Undefined
accessor_value (Some f) = value.Obj f

-- the fields of a property, as those of an object (8.10.4, steps 3 to 6)
abbrev pub fields : Prop → List (Name × Value)
fields (Plain v writable enumerable configurable) =
    (codes "value", v) ∷ (codes "writable", value.Bool writable)
    ∷ (codes "enumerable", value.Bool enumerable) ∷ (codes "configurable", value.Bool configurable) ∷ []
fields (Accessor getter setter enumerable configurable) =
    (codes "get", accessor_value getter) ∷ (codes "set", accessor_value setter)
    ∷ (codes "enumerable", value.Bool enumerable) ∷ (codes "configurable", value.Bool configurable) ∷ []

abbrev pub add_fields : ObjId → List (Name × Value) → Algorithm (Unit {0})
add_fields id [] = give tt
add_fields id ((x, v) ∷ l) = do
  _ ← add_property id x (Plain v true true true)
  add_fields id l

-- FromPropertyDescriptor (8.10.4)
abbrev pub from_property_descriptor : Option Prop → Algorithm Value
from_property_descriptor None = give value.Undefined
from_property_descriptor (Some p) = do
  id ← new_plain_object
  _ ← add_fields id (fields p)
  give_object id
