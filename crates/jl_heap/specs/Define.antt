-- Defining a property (8.12.9), and what arrays add to it (15.4.5.1).
use Rattle.std.specs.Prelude.{ℕ, ◌+◌, max, Bool, true, false, not, ◌&&◌, ◌||◌, nat_le, nat_lt, IsTrue, pos}
use Rattle.std.specs.Prelude.{List, [], ◌∷◌, Option, None, Some, codes, filter, if◌then◌else◌}
use Rattle.std.specs.Option.{option_map, option_map_or, unwrap_or}
use Rattle.std.specs.Str.{bytes_eq}
use Rattle.jl_props.specs.declared.entries.Entry.{Entry}
use Rattle.jl_props.specs.Entries.{with_item, with_new}
use Rattle.jl_value.specs.declared.object.Class.{Class}
use Rattle.jl_value.specs.declared.object.Class.TheVariants as class
use Rattle.jl_value.specs.declared.value.Value.{Value}
use Rattle.jl_value.specs.declared.value.Value.TheVariants as value
use Rattle.jl_value.specs.Indices.{index_of}
use Rattle.jl_heap.specs.Property.{is_configurable, is_data, is_accessor, is_same, property_after, new_property}
use Rattle.jl_heap.specs.Objects.{Name, Objects, object_at, with_properties, own, own_or_unit}
use Rattle.jl_heap.specs.declared.property.Change.{Change}
use Rattle.jl_heap.specs.declared.property.Defined.{Defined}
use Rattle.jl_heap.specs.declared.property.Defined.TheVariants.{Done, Rejected}
use Rattle.jl_heap.specs.declared.property.Prop.{Prop}
use Rattle.jl_heap.specs.declared.property.Prop.TheVariants.{Plain, Accessor}

-- the objects with this property stored in place of the one of its name
abbrev pub with_property : Objects → ℕ → Name → Prop → Objects
with_property heap place name property =
    with_properties heap place (with_item (object_at heap place).properties name property)

-- the objects with a new property, which has the next serial
abbrev pub with_new_property : Objects → ℕ → Name → Prop → Objects
with_new_property heap place name property =
    with_properties (record heap { next = heap.next + 1 }) place
    (with_new (object_at heap place).properties name heap.next property)

-- what becomes of a property is stored, and where nothing does the change is rejected
abbrev pub store_property : Objects → ℕ → Name → Option Prop → Objects × Defined
store_property heap place name None = (heap, Rejected)
store_property heap place name (Some p) = (with_property heap place name p, Done)

-- a change where this property, or none, is present (8.12.9, from step 3 on)
abbrev pub define_on : Objects → ℕ → Name → Change → Option Prop → Objects × Defined
define_on heap place name change None =
    if (object_at heap place).extensible then (with_new_property heap place name (new_property change), Done)
    else (heap, Rejected)
define_on heap place name change (Some present) =
    if is_same present change then (heap, Done) else store_property heap place name (property_after present change)

-- a change on an object that is no array (8.12.9)
abbrev pub define_ordinary : Objects → ℕ → Name → Change → Objects × Defined
define_ordinary heap place name change = define_on heap place name change (own_or_unit heap place name)

abbrev pub is_array : Class → Bool
is_array class.Array = true
is_array _ = false

unfoldable pub length_name : Name
length_name = codes "length"

-- the value of a number that counts something
abbrev pub count_of : Value → ℕ
count_of (value.Num (Some (pos n))) = n
count_of _ = 0

-- how many elements an array has, by its property `length`
abbrev pub length_of : Option Prop → ℕ
length_of (Some (Plain value _ _ _)) = count_of value
length_of _ = 0

abbrev pub is_writable : Option Prop → Bool
is_writable (Some (Plain _ writable _ _)) = writable
is_writable _ = false

-- a property `length` with another count, and writable only if it was and may stay so
abbrev pub with_count : ℕ → Bool → Prop → Prop
with_count n stays_writable (Plain _ writable enumerable configurable) =
    Plain (value.Num (Some (pos n))) (writable && stays_writable) enumerable configurable
with_count n stays_writable (Accessor get set enumerable configurable) = Accessor get set enumerable configurable

-- the property `length`, if there is one, with another count
abbrev pub with_length : Objects → ℕ → ℕ → Option Prop → Objects
with_length heap place n None = heap
with_length heap place n (Some length) = with_property heap place length_name (with_count n true length)

-- after a change that is done on the element at an index, `length` is greater than the index (15.4.5.1, step 4.e)
abbrev pub grow_length : ℕ → ℕ → Option Prop → Objects × Defined → Objects × Defined
grow_length place index length (heap, Rejected) = (heap, Rejected)
grow_length place index length (heap, Done) =
    ((if nat_le (length_of length) index then with_length heap place (index + 1) length else heap), Done)

-- a change on the element of an array at an index, where `length` is this (15.4.5.1, step 4)
abbrev pub define_array_element : Objects → ℕ → Name → ℕ → Change → Option Prop → Objects × Defined
define_array_element heap place name index change length =
    if nat_le (length_of length) index && not (is_writable length) then (heap, Rejected)
    else grow_length place index length (define_ordinary heap place name change)

-- whether an entry is an element from one index to below another
abbrev pub is_between : ℕ → ℕ → Name → Bool
is_between low high name = option_map_or (λ i. nat_le low i && nat_lt i high) (index_of name) false

-- where a property is an element in these bounds that can't be deleted, the index after it, and else the lower bound
abbrev pub index_after : ℕ → ℕ → Name → Prop → ℕ
index_after low high name property =
    if is_between low high name && not (is_configurable property)
    then option_map_or (λ i. i + 1) (index_of name) low
    else low

-- down to which index elements are deleted, from the greatest below `high` to `low`, where the first that can't be
-- deleted ends it (15.4.5.1, step 3.l): to the one after the greatest that can't
abbrev pub reachable_length : ℕ → ℕ → List (Entry Prop) → ℕ
reachable_length low high [] = low
reachable_length low high (e ∷ es) = max (index_after low high e.name e.item) (reachable_length low high es)

-- the entries without the elements in these bounds
abbrev pub entries_outside : ℕ → ℕ → List (Entry Prop) → List (Entry Prop)
entries_outside low high entries = filter (λ e. not (is_between low high e.name)) entries

-- an array whose length was `high`, cut down as far as `low`, where its property `length` would become this one
abbrev pub shorten_array : Objects → ℕ → Prop → ℕ → ℕ → Bool → Objects × Defined
shorten_array heap place length low high stays_writable =
    let entries = (object_at heap place).properties in
    let end = reachable_length low high entries in (
      with_properties heap place (with_item (entries_outside end high entries) length_name
          (with_count end stays_writable length)),
      (if nat_le end low then Done else Rejected),
    )

-- the change, with `length` writable for as long as elements are deleted (steps 3.h and 3.i)
abbrev pub kept_open : Change → Change
kept_open change = record change { writable = option_map (λ _. true) change.writable }

-- where `length` would become this, elements are deleted; where it can't, the change is rejected
abbrev pub shortened_to : Objects → ℕ → ℕ → ℕ → Bool → Option Prop → Objects × Defined
shortened_to heap place low high stays_writable None = (heap, Rejected)
shortened_to heap place low high stays_writable (Some length) = shorten_array heap place length low high stays_writable

-- `length` is given a smaller count (15.4.5.1, from step 3.g on)
abbrev pub defined_shorter : Objects → ℕ → Change → ℕ → Option Prop → Objects × Defined
defined_shorter heap place change low None = (heap, Rejected)
defined_shorter heap place change low (Some length) =
    if is_writable (Some length)
    then shortened_to heap place low (length_of (Some length)) (unwrap_or change.writable true)
    (property_after length (kept_open change))
    else (heap, Rejected)

-- a change on the `length` of an array, which is this (15.4.5.1, step 3)
abbrev pub define_array_length : Objects → ℕ → Change → Option Value → Option Prop → Objects × Defined
define_array_length heap place change None length = define_ordinary heap place length_name change
define_array_length heap place change (Some v) length =
    if nat_le (length_of length) (count_of v) then define_ordinary heap place length_name change
    else defined_shorter heap place change (count_of v) length

-- a change on a property of an array whose name is this index, or none (15.4.5.1, steps 4 and 5)
abbrev pub defined_at : Objects → ℕ → Name → Change → Option ℕ → Objects × Defined
defined_at heap place name change None = define_ordinary heap place name change
defined_at heap place name change (Some index) =
    define_array_element heap place name index change (own heap place length_name)

-- a change on any object: the objects after it, and whether it is done
abbrev pub define_own_property : Objects → ℕ → Name → Change → Objects × Defined
define_own_property heap place name change =
    if is_array (object_at heap place).class
    then (if bytes_eq name length_name
    then define_array_length heap place change change.value (own heap place length_name)
    else defined_at heap place name change (index_of name))
    else define_ordinary heap place name change

-- a change isn't data and accessor at once (8.10.5)
abbrev pub IsOneKind : Change → Type 0
IsOneKind change = IsTrue (not (is_data change && is_accessor change))

-- a whole number from 0 to 2^32 - 1
abbrev pub is_length : Value → Bool
is_length (value.Num (Some (pos n))) = nat_lt n 4294967296
is_length _ = false

abbrev pub IsLength : Option Value → Type 0
IsLength None = Unit {0}
IsLength (Some v) = IsTrue (is_length v)

-- a value that is given for the `length` of an array is such a number
abbrev pub FitsLength : Objects → ℕ → Name → Change → Type 0
FitsLength heap place name change =
    IsTrue (is_array (object_at heap place).class) → IsTrue (bytes_eq name length_name) → IsLength change.value

-- whether a change of a value under this name leaves the length of an array: the name is neither `length` nor an index
-- from the length on
abbrev pub keeps_length : Objects → ℕ → Name → Bool
keeps_length heap place name =
    not (is_array (object_at heap place).class)
    || (not (bytes_eq name length_name)
    && option_map_or (λ i. nat_lt i (length_of (own heap place length_name))) (index_of name) true)

-- whether a change of the value of an own property comes to that alone
abbrev pub takes_value_alone : Objects → ℕ → Name → Bool
takes_value_alone heap place name = is_writable (own heap place name) && keeps_length heap place name
