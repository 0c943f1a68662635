-- The objects of a run and their own properties (8.6, 8.12.1, 8.12.2, 8.12.4, 8.12.7).
use Rattle.std.specs.Prelude.{ℕ, zero, suc, Bool, true, false, ◌&&◌, List, [], ◌∷◌, Option, None, Some, is_some}
use Rattle.std.specs.Prelude.{map, slice_get, slice_index_or, slice_set, if◌then◌else◌}
use Rattle.std.specs.Option.{option_and_then, option_map, option_map_or, option_or}
use Rattle.jl_props.specs.declared.entries.Entry.{Entry}
use Rattle.jl_props.specs.Entries.{entry_named, name_and_serial, without}
use Rattle.jl_value.specs.declared.object.Class.{Class}
use Rattle.jl_value.specs.declared.object.Class.TheVariants as class
use Rattle.jl_value.specs.declared.object.ObjId.{ObjId}
use Rattle.jl_value.specs.declared.value.Value.TheVariants as value
use Rattle.jl_value.specs.Indices.{index_of}
use Rattle.jl_heap.specs.Property.{is_configurable}
use Rattle.jl_heap.specs.declared.inner.Inner.{Inner}
use Rattle.jl_heap.specs.declared.inner.Inner.TheVariants.{Nothing, Wrapped}
use Rattle.jl_heap.specs.declared.property.Prop.{Prop}
use Rattle.jl_heap.specs.declared.property.Prop.TheVariants.{Plain, Accessor}

-- the UTF-16 units of a name
abbrev pub Name : Type 0
Name = List ℕ

pub record Object : Type 0 where
  pub class : Class
  pub proto : Option ObjId
  pub extensible : Bool
  pub inner : Inner
  -- the own properties that are stored, in the order in which they were made
  pub properties : List (Entry Prop)

-- all objects, each at its place, and the number of properties ever made
pub record Objects : Type 0 where
  pub objects : List Object
  pub next : ℕ

-- what stands at a place where no object is
abbrev pub absent_object : Object
absent_object = record { class = class.Object; proto = None; extensible = false; inner = Nothing; properties = [] }

abbrev pub object_at : Objects → ℕ → Object
object_at heap place = slice_index_or heap.objects place absent_object

-- an object in place of the one at a place, if there is one
abbrev pub with_object : Objects → ℕ → Object → Objects
with_object heap place object = record heap { objects = slice_set heap.objects place object }

abbrev pub with_properties : Objects → ℕ → List (Entry Prop) → Objects
with_properties heap place properties =
    with_object heap place (record (object_at heap place) { properties = properties })

-- the own property that is stored under a name (8.12.1)
abbrev pub own : Objects → ℕ → Name → Option Prop
own heap place name = option_map (λ e. e.item) (entry_named name (object_at heap place).properties)

-- the serial of the own property that is stored under a name
abbrev pub serial_of : Objects → ℕ → Name → Option ℕ
serial_of heap place name = option_map (λ e. e.serial) (entry_named name (object_at heap place).properties)

-- the units that an object of this class with this inner part has as properties: those of the text of a String object
abbrev pub units_of : Class → Inner → List ℕ
units_of class.String (Wrapped (value.Text units)) = units
units_of _ _ = []

-- the unit of a String object at an index below its length (15.5.5.2)
abbrev pub unit_at : Objects → ℕ → Name → Option ℕ
unit_at heap place name =
    let object = object_at heap place in
    option_and_then (λ i. slice_get (units_of object.class object.inner) i) (index_of name)

-- the property that a unit is: it can be seen, and neither written nor changed
abbrev pub unit_property : ℕ → Prop
unit_property unit = Plain (value.Text (unit ∷ [])) false true false

-- the own property of a name, units of String objects among them
abbrev pub own_or_unit : Objects → ℕ → Name → Option Prop
own_or_unit heap place name =
    option_or (own heap place name) (option_map unit_property (unit_at heap place name))

-- the nearest property of a name, on an object or along at most this many prototypes, and the place where it is
abbrev pub find_within : ℕ → Objects → ℕ → Name → Option (ℕ × Prop)
find_within zero heap place name = option_map (λ p. (place, p)) (own heap place name)
find_within (suc more) heap place name =
    option_or (option_map (λ p. (place, p)) (own heap place name))
    (option_and_then (λ proto. find_within more heap proto.0 name) (object_at heap place).proto)

-- the nearest property of a name (8.12.2); a prototype has a smaller place, so that there are at most `place` of them
abbrev pub find : Objects → ℕ → Name → Option (ℕ × Prop)
find heap place name = find_within place heap place name

-- whether an own property lets a value be put (8.12.4, step 2)
abbrev pub takes_value : Prop → Bool
takes_value (Plain _ writable _ _) = writable
takes_value (Accessor _ set _ _) = is_some set

-- whether a property of a prototype lets a value be put on an object that is or isn't extensible (8.12.4, steps 4 to 8)
abbrev pub lets_through : Bool → Option (ℕ × Prop) → Bool
lets_through extensible None = extensible
lets_through extensible (Some (_, Plain _ writable _ _)) = extensible && writable
lets_through extensible (Some (_, Accessor _ set _ _)) = is_some set

-- the nearest property of a name on the prototypes of an object
abbrev pub find_inherited : Objects → ℕ → Name → Option (ℕ × Prop)
find_inherited heap place name = option_and_then (λ proto. find heap proto.0 name) (object_at heap place).proto

-- whether a value can be put (8.12.4)
abbrev pub can_put : Objects → ℕ → Name → Bool
can_put heap place name =
    option_map_or takes_value (own heap place name)
    (lets_through (object_at heap place).extensible (find_inherited heap place name))

-- the objects after a delete where this property, or none, is present, and whether the name is free now
abbrev pub deleted_if : Objects → ℕ → Name → Option Prop → Objects × Bool
deleted_if heap place name None = (heap, true)
deleted_if heap place name (Some present) =
    if is_configurable present
    then (with_properties heap place (without (object_at heap place).properties name), true)
    else (heap, false)

-- a delete (8.12.7)
abbrev pub delete_property : Objects → ℕ → Name → Objects × Bool
delete_property heap place name = deleted_if heap place name (own_or_unit heap place name)

-- the names of the stored properties with their serials, in the order in which they were made
abbrev pub names_of : Objects → ℕ → List (Name × ℕ)
names_of heap place = map name_and_serial (object_at heap place).properties
