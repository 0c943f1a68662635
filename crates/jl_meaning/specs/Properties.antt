-- The properties of objects and of other values, as scripts see them: with the units of strings (15.5.5.2), and with
-- the values of the parameters that indices of an arguments object are mapped to (10.6).
use Rattle.std.specs.Option.{option_and_then, option_or}
use Rattle.std.specs.Prelude.{false, if◌then◌else◌, is_some, length, option_map, pos, slice_get, suc, true, zero}
use Rattle.std.specs.Prelude.{Bool, List, None, Option, Some, ℕ}
use Rattle.std.specs.Str.{bytes_eq}
use Rattle.jl_value.specs.Indices.{index_of}
use Rattle.jl_value.specs.declared.object.ObjId.{ObjId}
use Rattle.jl_value.specs.declared.value.Value.{Value}
use Rattle.jl_value.specs.declared.value.Value.TheVariants as value
use Rattle.jl_heap.specs.Define.{length_name}
use Rattle.jl_heap.specs.Objects.{find_inherited, lets_through, object_at, own, own_or_unit, takes_value, unit_property}
use Rattle.jl_heap.specs.Objects.{Name}
use Rattle.jl_heap.specs.declared.inner.Inner.{Inner}
use Rattle.jl_heap.specs.declared.inner.Inner.TheVariants as inner
use Rattle.jl_heap.specs.declared.property.Prop.{Prop}
use Rattle.jl_heap.specs.declared.property.Prop.TheVariants.{Accessor, Plain}
use Rattle.jl_op.specs.declared.found.Found.{Found}
use Rattle.jl_op.specs.declared.found.Found.TheVariants as found
use Rattle.jl_meaning.specs.Intrinsics.{boolean_prototype, number_prototype, string_prototype}
use Rattle.jl_meaning.specs.Store.{binding_of, Store}

-- the parameter that an index of an arguments object is mapped to, with its environment
abbrev pub parameter_at : Inner → Name → Option (ℕ × Name)
parameter_at (inner.Mapped env names) x =
    option_and_then (λ i. option_and_then (λ parameter. option_map (λ p. (env, p)) parameter) (slice_get names i))
    (index_of x)
parameter_at _ x = None

abbrev pub mapped_parameter : Store → (address : ℕ) → Name → Option (ℕ × Name)
mapped_parameter store address x = parameter_at (object_at store.heap address).inner x

-- the value of that parameter
abbrev pub parameter_value : Store → (address : ℕ) → Name → Option Value
parameter_value store address x =
    option_and_then (λ p. option_map (λ b. b.value) (binding_of store p.0 p.1)) (mapped_parameter store address x)

-- a data property with this value, if there is one
abbrev pub holding : Option Value → Prop → Prop
holding (Some v) (Plain _ writable enumerable configurable) = Plain v writable enumerable configurable
holding _ p = p

-- [[GetOwnProperty]] (8.12.1, 10.6, 15.5.5.2)
unfoldable pub get_own_property : Store → (address : ℕ) → Name → Option Prop
get_own_property store address x =
    option_map (holding (parameter_value store address x)) (own_or_unit store.heap address x)

-- a property that was found, and whether it is an own one or stands on a prototype
abbrev pub Property : Type 0
Property = Bool × Prop

-- the nearest property of a name along at most this many prototypes
abbrev pub property_within : ℕ → Store → (address : ℕ) → Name → Option Prop
property_within zero store address x = get_own_property store address x
property_within (suc more) store address x =
    option_or (get_own_property store address x)
    (option_and_then (λ proto. property_within more store proto.0 x) (object_at store.heap address).proto)

-- the nearest property on the prototypes of an object, each of which has a smaller address
abbrev pub inherited_property : Store → (address : ℕ) → Name → Option Prop
inherited_property store address x =
    option_and_then (λ proto. property_within proto.0 store proto.0 x) (object_at store.heap address).proto

abbrev pub own_or_inherited : Option Prop → Option Prop → Option Property
own_or_inherited own inherited = option_or (option_map (λ p. (true, p)) own) (option_map (λ p. (false, p)) inherited)

-- [[GetProperty]] (8.12.2)
unfoldable pub get_property : Store → (address : ℕ) → Name → Option Property
get_property store address x =
    own_or_inherited (get_own_property store address x) (inherited_property store address x)

-- [[HasProperty]] (8.12.6)
abbrev pub has_property : Store → (address : ℕ) → Name → Bool
has_property store address x = is_some (get_property store address x)

-- the own properties of a string: its length, and its units
abbrev pub string_property : List ℕ → Name → Option Prop
string_property units x =
    if bytes_eq x length_name then Some (Plain (value.Num (Some (pos (length units)))) false false false)
    else option_map unit_property (option_and_then (λ i. slice_get units i) (index_of x))

abbrev pub property_on : Store → ObjId → Name → Option Prop
property_on store proto x = property_within proto.0 store proto.0 x

-- the property that a value has; one that is no object has those of the object that ToObject would make of it (8.7.1)
unfoldable pub property_of_value : Store → Value → Name → Option Property
property_of_value store (value.Obj id) x = get_property store id.0 x
property_of_value store (value.Text units) x =
    own_or_inherited (string_property units x) (property_on store string_prototype x)
property_of_value store (value.Num n) x = own_or_inherited None (property_on store number_prototype x)
property_of_value store (value.Bool b) x = own_or_inherited None (property_on store boolean_prototype x)
property_of_value store _ x = None

-- what operations tell of it
abbrev pub found_of : Option Property → Found
found_of None = found.Absent
found_of (Some (true, Plain _ _ _ _)) = found.OwnPlain
found_of (Some (true, Accessor _ _ _ _)) = found.OwnAccessor
found_of (Some (false, Plain _ _ _ _)) = found.ChainPlain
found_of (Some (false, Accessor _ _ _ _)) = found.ChainAccessor

-- [[CanPut]] (8.12.4), where this property was found, or none, on an object that is or isn't extensible
abbrev pub can_put : (extensible : Bool) → Option Property → Bool
can_put extensible (Some (true, p)) = takes_value p
can_put extensible (Some (false, p)) = lets_through extensible (Some (0, p))
can_put extensible None = extensible
