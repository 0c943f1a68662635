-- What the definitions of defining and deleting come to.
use Rattle.std.specs.Prelude.{◌≡◌, ◌≢◌, ℕ, zero, suc, ◌+◌, ◌≤◌, Bool, false, not, List}
use Rattle.std.specs.Prelude.{Option, None, Some, if◌then◌else◌}
use Rattle.std.specs.Option.{option_map}
use Rattle.jl_num.specs.Digits.{digits_of}
use Rattle.jl_props.specs.Entries.{IsInOrder, entry_named, without}
use Rattle.jl_props.specs.declared.entries.Entry.{Entry}
use Rattle.jl_value.specs.declared.value.Value.{Value}
use Rattle.jl_heap.specs.Define.{IsOneKind, entries_outside, define_own_property, reachable_length}
use Rattle.jl_heap.specs.Objects.{Name, Objects, delete_property, object_at, own, unit_at}
use Rattle.jl_heap.specs.Property.{is_configurable}
use Rattle.jl_heap.specs.declared.property.Change.{Change}
use Rattle.jl_heap.specs.declared.property.Prop.{Prop}
use Rattle.jl_heap.specs.declared.property.Prop.TheVariants.{Plain}

-- a property that can be neither configured nor written is as it was after any change on its object (8.6.1)
abbrev pub ReadOnlyStays : Type 0
ReadOnlyStays =
    (heap : Objects) (place : ℕ) (name other : Name) (change : Change) (value : Value) (enumerable : Bool) →
    IsOneKind change → own heap place name ≡ Some (Plain value false enumerable false) →
    own (define_own_property heap place other change).0 place name ≡ Some (Plain value false enumerable false)

-- a property that can't be configured is there after any delete (8.12.7)
abbrev pub NonConfigurableStays : Type 0
NonConfigurableStays =
    (heap : Objects) (place : ℕ) (name other : Name) (property : Prop) → is_configurable property ≡ false →
    own heap place name ≡ Some property → own (delete_property heap place other).0 place name ≡ Some property

-- a change on one object, or a delete, changes no other
pub record KeepsObject (heap : Objects) (place other : ℕ) (name : Name) (change : Change) : Type 0 where
  pub defined_there : object_at (define_own_property heap place name change).0 other ≡ object_at heap other
  pub deleted_there : object_at (delete_property heap place name).0 other ≡ object_at heap other

abbrev pub OthersStay : Type 0
OthersStay =
    (heap : Objects) (place other : ℕ) (name : Name) (change : Change) → other ≢ place →
    KeepsObject heap place other name change

-- a change under the name of a unit of a String object, where no property is stored under it, leaves all objects as
-- they are (15.5.5.2)
abbrev pub UnitsStay : Type 0
UnitsStay =
    (heap : Objects) (place : ℕ) (name : Name) (change : Change) (unit : ℕ) → IsOneKind change →
    unit_at heap place name ≡ Some unit → own heap place name ≡ None
    → (define_own_property heap place name change).0 ≡ heap

-- whether a property is there that can't be configured
abbrev pub is_non_configurable : Option Prop → Bool
is_non_configurable None = false
is_non_configurable (Some p) = not (is_configurable p)

-- so many elements from an index on are deleted, from the greatest index down, and the first that can't be ends that:
-- the index after it, or the one where all began, and the entries that are left (15.4.5.1, step 3.l)
abbrev pub delete_elements_down : ℕ → ℕ → List (Entry Prop) → ℕ × List (Entry Prop)
delete_elements_down low zero entries = (low, entries)
delete_elements_down low (suc more) entries =
    let name = digits_of 10 (low + more) in
    if is_non_configurable (option_map (λ e. e.item) (entry_named name entries)) then (low + more + 1, entries)
    else delete_elements_down low more (without entries name)

-- an array is cut as if its elements were deleted one by one
abbrev pub CutsOneByOne : Type 0
CutsOneByOne =
    (low more : ℕ) (entries : List (Entry Prop)) → IsInOrder entries → low + more ≤ 4294967295 →
    delete_elements_down low more entries
    ≡ (
      reachable_length low (low + more) entries,
      entries_outside (reachable_length low (low + more) entries) (low
          + more) entries,
    )
