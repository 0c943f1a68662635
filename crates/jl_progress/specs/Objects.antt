-- What the builtins of Object and its prototype do with the value that they waited for (15.2).
use Rattle.std.specs.Prelude.{[], codes, drop, is_some, length, not, ◌&&◌, ◌*◌, ◌++◌, ◌+◌, ◌∷◌, Bool, Some, ℕ}
use Rattle.jl_value.specs.declared.object.ObjId.{ObjId}
use Rattle.jl_value.specs.declared.value.Value.{Value}
use Rattle.jl_conv.specs.Conversions.{text_of_value, truth_of}
use Rattle.jl_heap.specs.Objects.{object_at, Name}
use Rattle.jl_heap.specs.declared.property.Change.{Change}
use Rattle.jl_heap.specs.declared.property.Prop.{Prop}
use Rattle.jl_meaning.specs.Conversions.{to_object}
use Rattle.jl_meaning.specs.Parts.{give, look, ◌>>=◌, Algorithm}
use Rattle.jl_meaning.specs.Properties.{get_own_property}
use Rattle.jl_meaning.specs.Relations.{give_truth}
use Rattle.jl_meaning.specs.Store.{Store}
use Rattle.jl_meaning.specs.builtins.Arguments.{define_or_throw, give_object}
use Rattle.jl_meaning.specs.builtins.Descriptors.{accessor_field, accessor_of, field, from_property_descriptor}
use Rattle.jl_meaning.specs.builtins.Descriptors.{has_enumerable, of_one_kind, to_property_descriptor, truth_field}
use Rattle.jl_meaning.specs.builtins.Object.{all_properties, changes_of, define_each, forbid_extensions}
use Rattle.jl_meaning.specs.builtins.Object.{frozen_property, is_frozen_property, is_sealed_property, redefine}
use Rattle.jl_meaning.specs.builtins.Object.{sealed_property}
use Rattle.jl_meaning.specs.builtins.Turns.{each}
use Rattle.jl_progress.specs.declared.object.DescriptorField.{DescriptorField}
use Rattle.jl_progress.specs.declared.object.DescriptorField.TheVariants as field_of
use Rattle.jl_progress.specs.declared.object.DescriptorUse.{DescriptorUse}
use Rattle.jl_progress.specs.declared.object.DescriptorUse.TheVariants as use_of
use Rattle.jl_progress.specs.declared.object.Integrity.{Integrity}
use Rattle.jl_progress.specs.declared.object.Integrity.TheVariants as integrity
use Rattle.jl_progress.specs.declared.object.ObjectProgress.{ObjectProgress}
use Rattle.jl_progress.specs.declared.object.ObjectProgress.TheVariants as object
use Rattle.jl_progress.specs.declared.object.OwnTest.{OwnTest}
use Rattle.jl_progress.specs.declared.object.OwnTest.TheVariants as own_test

-- what becomes of a property of an object that is sealed or frozen
abbrev pub restricted_property : Integrity → Prop → Prop
restricted_property integrity.Sealed = sealed_property
restricted_property integrity.Frozen = frozen_property

-- whether a property is so
abbrev pub is_restricted_property : Integrity → Prop → Bool
is_restricted_property integrity.Sealed = is_sealed_property
is_restricted_property integrity.Frozen = is_frozen_property

-- what is asked of an own property
abbrev pub own_test_of : OwnTest → Store → (address : ℕ) → Name → Bool
own_test_of own_test.IsThere store address x = is_some (get_own_property store address x)
own_test_of own_test.IsEnumerable store address x = has_enumerable store address x

-- The fields of a descriptor from one on, with the change that the fields before it make (8.10.5, steps 3 to 9).
abbrev pub change_from_set : (descriptor : ObjId) → Change → Algorithm Change
change_from_set descriptor change = do
  setter ← accessor_field descriptor (codes "set")
  of_one_kind (record change { set = setter })

abbrev pub change_from_get : (descriptor : ObjId) → Change → Algorithm Change
change_from_get descriptor change = do
  getter ← accessor_field descriptor (codes "get")
  change_from_set descriptor (record change { get = getter })

abbrev pub change_from_writable : (descriptor : ObjId) → Change → Algorithm Change
change_from_writable descriptor change = do
  writable ← truth_field descriptor (codes "writable")
  change_from_get descriptor (record change { writable = writable })

abbrev pub change_from_value : (descriptor : ObjId) → Change → Algorithm Change
change_from_value descriptor change = do
  v ← field descriptor (codes "value")
  change_from_writable descriptor (record change { value = v })

abbrev pub change_from_configurable : (descriptor : ObjId) → Change → Algorithm Change
change_from_configurable descriptor change = do
  configurable ← truth_field descriptor (codes "configurable")
  change_from_value descriptor (record change { configurable = configurable })

abbrev pub change_from_enumerable : (descriptor : ObjId) → Change → Algorithm Change
change_from_enumerable descriptor change = do
  enumerable ← truth_field descriptor (codes "enumerable")
  change_from_configurable descriptor (record change { enumerable = enumerable })

-- the same from after a field that is there and has this value
abbrev pub change_after : DescriptorField → (descriptor : ObjId) → Change → Value → Algorithm Change
change_after field_of.Enumerable descriptor change v =
    change_from_configurable descriptor (record change { enumerable = Some (truth_of v) })
change_after field_of.Configurable descriptor change v =
    change_from_value descriptor (record change { configurable = Some (truth_of v) })
change_after field_of.Value descriptor change v = change_from_writable descriptor (record change { value = Some v })
change_after field_of.Writable descriptor change v =
    change_from_get descriptor (record change { writable = Some (truth_of v) })
change_after field_of.Get descriptor change v = do
  getter ← accessor_of (Some v)
  change_from_set descriptor (record change { get = getter })
change_after field_of.Set descriptor change v = do
  setter ← accessor_of (Some v)
  of_one_kind (record change { set = setter })

-- what a descriptor is read for, with the change that it describes
abbrev pub after_descriptor : DescriptorUse → Change → Algorithm Value
after_descriptor (use_of.One id name) change = do
  _ ← define_or_throw id name change
  give_object id
after_descriptor (use_of.Next id descriptors changes name names from) change = do
  all ← changes_of descriptors (changes ++ (name, change) ∷ []) (drop from names)
  _ ← define_each id all
  give_object id

abbrev pub object_after : ObjectProgress → Value → Algorithm Value
object_after (object.DescribedName id) p = do
  store ← look
  from_property_descriptor (get_own_property store id.0 (text_of_value p))
object_after (object.DefinedName id descriptor) p = do
  change ← to_property_descriptor descriptor
  _ ← define_or_throw id (text_of_value p) change
  give_object id
object_after (object.Field which descriptor so_far purpose) v = do
  change ← change_after which descriptor so_far v
  after_descriptor purpose change
object_after (object.Descriptor id descriptors changes name names from) v = do
  change ← to_property_descriptor v
  after_descriptor (use_of.Next id descriptors changes name names from) change
object_after (object.Define id changes from) _ = do
  _ ← define_each id (drop from changes)
  give_object id
object_after (object.Restrict level id names from) _ = do
  _ ← each (redefine (restricted_property level) id) (drop from names)
  _ ← forbid_extensions id
  give_object id
object_after (object.Test level id holds names from) _ = do
  closed ← all_properties (is_restricted_property level) id holds (drop from names)
  store ← look
  give_truth (closed && not (object_at store.heap id.0).extensible)
object_after (object.OwnName test this) p = do
  id ← to_object this
  store ← look
  give_truth (own_test_of test store id.0 (text_of_value p))

-- how many fields come after one
abbrev pub fields_after : DescriptorField → ℕ
fields_after field_of.Enumerable = 5
fields_after field_of.Configurable = 4
fields_after field_of.Value = 3
fields_after field_of.Writable = 2
fields_after field_of.Get = 1
fields_after field_of.Set = 0

-- so many definitions, which take no step
abbrev pub rank_definitions : (count : ℕ) → ℕ
rank_definitions count = 44 * count + 6

abbrev pub rank_use : DescriptorUse → ℕ
rank_use (use_of.One id name) = 44
rank_use (use_of.Next id descriptors changes name names from) = rank_definitions (length changes + 1) + 2

abbrev pub rank_object : ObjectProgress → ℕ
rank_object (object.DescribedName id) = 6
rank_object (object.DefinedName id descriptor) = 80
rank_object (object.Field which descriptor so_far purpose) = rank_use purpose + (4 * fields_after which + 4)
rank_object (object.Descriptor id descriptors changes name names from) = rank_definitions (length changes + 1) + 40
rank_object (object.Define id changes from) = rank_definitions (length (drop from changes))
rank_object (object.Restrict level id names from) = 6
rank_object (object.Test level id holds names from) = 6
rank_object (object.OwnName test this) = 6
