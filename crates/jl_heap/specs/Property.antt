-- Properties, changes, and what a change makes of a property (8.6.1, 8.10, 8.12.9).
use Rattle.std.specs.Prelude.{Bool, true, false, not, ◌&&◌, ◌||◌, ◌==◌, Option, None, Some, is_some, if◌then◌else◌}
use Rattle.std.specs.Option.{unwrap_or}
use Rattle.jl_value.specs.declared.object.ObjId.{ObjId}
use Rattle.jl_value.specs.declared.value.Value.{Value}
use Rattle.jl_value.specs.declared.value.Value.TheVariants.{Undefined}
use Rattle.jl_value.specs.Same.{same_bool, same_value}
use Rattle.jl_heap.specs.declared.property.Prop.{Prop}
use Rattle.jl_heap.specs.declared.property.Prop.TheVariants.{Plain, Accessor}
use Rattle.jl_heap.specs.declared.property.Change.{Change}

abbrev pub is_enumerable : Prop → Bool
is_enumerable (Plain _ _ enumerable _) = enumerable
is_enumerable (Accessor _ _ enumerable _) = enumerable

abbrev pub is_configurable : Prop → Bool
is_configurable (Plain _ _ _ configurable) = configurable
is_configurable (Accessor _ _ _ configurable) = configurable

-- nothing is asked for
abbrev pub no_change : Change
no_change = record { value = None; writable = None; get = None; set = None; enumerable = None; configurable = None }

-- another value is asked for
abbrev pub value_change : Value → Change
value_change v = record no_change { value = Some v }

-- IsDataDescriptor (8.10.2)
abbrev pub is_data : Change → Bool
is_data change = is_some change.value || is_some change.writable

-- IsAccessorDescriptor (8.10.1)
abbrev pub is_accessor : Change → Bool
is_accessor change = is_some change.get || is_some change.set

-- a field that isn't given, or is given as it is already
abbrev pub stays : {A : Type 0} → (A → A → Bool) → Option A → A → Bool
stays same None present = true
stays same (Some given) present = same given present

-- the same function, or undefined both
abbrev pub same_function : Option ObjId → Option ObjId → Bool
same_function None None = true
same_function None (Some _) = false
same_function (Some _) None = false
same_function (Some f) (Some g) = f.0 == g.0

-- every field that is given is there with the same value (8.12.9, steps 5 and 6)
abbrev pub is_same : Prop → Change → Bool
is_same (Plain value writable enumerable configurable) change =
    not (is_accessor change) && (stays same_value change.value value && (stays same_bool change.writable writable
    && (stays same_bool change.enumerable enumerable && stays same_bool change.configurable configurable)))
is_same (Accessor get set enumerable configurable) change =
    not (is_data change) && (stays same_function change.get get && (stays same_function change.set set
    && (stays same_bool change.enumerable enumerable && stays same_bool change.configurable configurable)))

-- whether fields are given that a property of this kind doesn't have, and none that only it has (step 9)
abbrev pub turns : Prop → Change → Bool
turns (Plain _ _ _ _) change = is_accessor change && not (is_data change)
turns (Accessor _ _ _ _) change = is_data change

-- whether a field of its kind is given that the property, which isn't configurable, can't have (steps 10.a and 11.a)
abbrev pub breaks : Prop → Change → Bool
breaks (Plain value writable _ _) change =
    not writable && (not (stays same_bool change.writable false) || not (stays same_value change.value value))
breaks (Accessor get set _ _) change =
    not (stays same_function change.get get) || not (stays same_function change.set set)

-- what a property that isn't configurable refuses (step 7, and then 9 to 11)
abbrev pub is_refused : Prop → Change → Bool
is_refused present change =
    not (stays same_bool change.configurable false) || (not (stays same_bool change.enumerable (is_enumerable present))
    || (turns present change || breaks present change))

-- a property of the other kind, with what both kinds have (steps 9.b and 9.c)
abbrev pub other_kind : Prop → Prop
other_kind (Plain _ _ enumerable configurable) = Accessor None None enumerable configurable
other_kind (Accessor _ _ enumerable configurable) = Plain Undefined false enumerable configurable

-- the property with the fields that are given (step 12)
abbrev pub with_fields : Prop → Change → Prop
with_fields (Plain value writable enumerable configurable) change =
    Plain (unwrap_or change.value value) (unwrap_or change.writable writable)
    (unwrap_or change.enumerable enumerable) (unwrap_or change.configurable configurable)
with_fields (Accessor get set enumerable configurable) change =
    Accessor (unwrap_or change.get get) (unwrap_or change.set set)
    (unwrap_or change.enumerable enumerable) (unwrap_or change.configurable configurable)

-- what becomes of a property, or none where the change is rejected (steps 7 to 12)
abbrev pub property_after : Prop → Change → Option Prop
property_after present change =
    if not (is_configurable present) && is_refused present change
    then None
    else Some (with_fields (if turns present change then other_kind present else present) change)

-- the property with another value, if it holds one
abbrev pub with_value : Prop → Value → Prop
with_value (Plain _ writable enumerable configurable) v = Plain v writable enumerable configurable
with_value (Accessor get set enumerable configurable) v = Accessor get set enumerable configurable

-- a new property: what isn't given is undefined or false (step 4)
abbrev pub new_property : Change → Prop
new_property change =
    with_fields
    (if is_accessor change then Accessor None None false false else Plain Undefined false false false)
    change
