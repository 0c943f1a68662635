-- What builtins of objects do from one place on.
use Rattle.std.specs.Option.{option_map_or}
use Rattle.std.specs.Prelude.{false, not, true, ◌&&◌, Bool, List, Option, ℕ}
use Rattle.jl_value.specs.declared.object.Class.TheVariants as class
use Rattle.jl_value.specs.declared.object.ObjId.{ObjId}
use Rattle.jl_value.specs.declared.value.Value.{Value}
use Rattle.jl_value.specs.declared.value.Value.TheVariants as value
use Rattle.jl_heap.specs.Objects.{object_at, Name}
use Rattle.jl_heap.specs.declared.inner.Inner.TheVariants as inner
use Rattle.jl_heap.specs.declared.property.Change.{Change}
use Rattle.jl_meaning.specs.Getting.{get}
use Rattle.jl_meaning.specs.Parts.{look, new_object, ◌>>=◌, Algorithm}
use Rattle.jl_meaning.specs.Properties.{get_own_property}
use Rattle.jl_meaning.specs.builtins.Arguments.{give_object, unless_undefined}
use Rattle.jl_meaning.specs.builtins.Descriptors.{from_property_descriptor, to_property_descriptor}
use Rattle.jl_meaning.specs.Relations.{give_truth}
use Rattle.jl_meaning.specs.builtins.Object.{all_properties, define_all, define_each, forbid_extensions}
use Rattle.jl_meaning.specs.builtins.Object.{redefine}
use Rattle.jl_meaning.specs.builtins.Turns.{each}
use Rattle.jl_progress.specs.Objects.{after_descriptor, is_restricted_property, restricted_property}
use Rattle.jl_progress.specs.declared.object.DescriptorUse.{DescriptorUse}
use Rattle.jl_progress.specs.declared.object.DescriptorUse.TheVariants as use_of
use Rattle.jl_progress.specs.declared.object.Integrity.{Integrity}
use Rattle.jl_progress.specs.declared.object.Integrity.TheVariants as integrity

-- an own property is described (15.2.3.3, steps 3 and 4)
abbrev pub describe_own : ObjId → Name → Algorithm Value
describe_own id x = do
  store ← look
  from_property_descriptor (get_own_property store id.0 x)

-- a descriptor is read, and then what it is read for
abbrev pub define_by : DescriptorUse → Value → Algorithm Value
define_by purpose v = do
  change ← to_property_descriptor v
  after_descriptor purpose change

-- each property is defined, and the object given
abbrev pub define_and_give : ObjId → List (Name × Change) → Algorithm Value
define_and_give id changes = do
  _ ← define_each id changes
  give_object id

-- the descriptor of a name is got and read, after the changes so far and before those of the names from an index on
abbrev pub read_descriptor : (object descriptors : ObjId) → List (Name × Change) → Name → List Name → (from : ℕ)
    → Algorithm Value
read_descriptor id descriptors changes x names from = do
  v ← get (value.Obj descriptors) x
  define_by (use_of.Next id descriptors changes x names from) v

-- each property of these names is sealed or frozen, one a turn, and no more may be added
abbrev pub restrict_and_give : Integrity → ObjId → List Name → Algorithm Value
restrict_and_give level id names = do
  _ ← each (redefine (restricted_property level) id) names
  _ ← forbid_extensions id
  give_object id

-- whether each is sealed or frozen, one a turn, and no more may be added
abbrev pub test_and_give : Integrity → ObjId → (holds : Bool) → List Name → Algorithm Value
test_and_give level id holds names = do
  closed ← all_properties (is_restricted_property level) id holds names
  store ← look
  give_truth (closed && not (object_at store.heap id.0).extensible)

-- the property of a name is tested first
abbrev pub test_one : Integrity → ObjId → (holds : Bool) → Name → List Name → Algorithm Value
test_one level id holds x names = do
  store ← look
  test_and_give level id
      (holds && option_map_or (is_restricted_property level) (get_own_property store id.0 x) true) names

-- whether a property that can be written still can when it is sealed or frozen
abbrev pub stays_writable : Integrity → (writable : Bool) → Bool
stays_writable integrity.Sealed writable = writable
stays_writable integrity.Frozen writable = false

-- a new object with a prototype gets the properties that are given (15.2.3.5, steps 2 to 4)
abbrev pub create_with : Option ObjId → (properties : Value) → Algorithm Value
create_with proto properties = do
  id ← new_object class.Object proto inner.Nothing
  _ ← unless_undefined tt (define_all id) properties
  give_object id
