-- How what look-ups answer is seen.
use Rattle.std.specs.Prelude.{false, true, Bool, None, Option, Some}
use Rattle.jl_value.specs.declared.value.Value.{Value}
use Rattle.jl_heap.specs.Objects.{unit_property, Name}
use Rattle.jl_heap.specs.declared.property.Prop.{Prop}
use Rattle.jl_heap.specs.declared.property.Prop.TheVariants.{Accessor, Plain}
use Rattle.jl_value.specs.declared.object.ObjId.{ObjId}
use Rattle.jl_meaning.specs.FunctionObjects.{whole}
use Rattle.jl_meaning.specs.Intrinsics.{global_object}
use Rattle.jl_meaning.specs.Properties as meaning
use Rattle.jl_meaning.specs.References as references
use Rattle.jl_meaning.specs.Store.{binding_of, Store}
use Rattle.jl_store.specs.declared.found.Found.{Found}
use Rattle.jl_store.specs.declared.found.Found.TheVariants as found
use Rattle.jl_store.specs.declared.found.Property.{Property}
use Rattle.jl_store.specs.declared.names.Reference.{Reference}
use Rattle.jl_store.specs.declared.names.Reference.TheVariants as reference

-- the property that was found
abbrev pub property_found : Found → Prop
property_found (found.Stored p) = p.now
property_found (found.Unit unit) = unit_property unit
property_found (found.Parameter p v) = meaning.holding (Some v.now) p.now
property_found (found.Length n) = Plain (whole n) false false false

-- the same, with whether it is an own one
abbrev pub property_seen : Property → meaning.Property
property_seen p = (p.own, property_found p.found)

-- what a name refers to
abbrev pub reference_seen : Reference → references.Reference
reference_seen (reference.InEnvironment env) = references.in_environment env
reference_seen reference.OnGlobalObject = references.on_global_object
reference_seen reference.Unresolvable = references.unresolvable

-- the value of a data property
abbrev pub data_value : Prop → Option Value
data_value (Plain v _ _ _) = Some v
data_value (Accessor _ _ _ _) = None

abbrev pub is_data : Prop → Bool
is_data (Plain _ _ _ _) = true
is_data (Accessor _ _ _ _) = false

-- what a data property holds that was found
abbrev pub value_held : Option meaning.Property → Option Value
value_held (Some (own, p)) = data_value p
value_held None = None

-- the value of what a name refers to, where that needs no call
abbrev pub value_referred : Store → Name → references.Reference → Option Value
value_referred store x (references.in_environment env) = Some (references.binding_value (binding_of store env x))
value_referred store x references.on_global_object = value_held (meaning.get_property store global_object.0 x)
value_referred store x references.unresolvable = None

-- the getter and the setter of an accessor property
abbrev pub getter_of : Prop → Option ObjId
getter_of (Plain _ _ _ _) = None
getter_of (Accessor get _ _ _) = get

abbrev pub setter_of : Prop → Option ObjId
setter_of (Plain _ _ _ _) = None
setter_of (Accessor _ set _ _) = set
