-- Object (15.2): the constructor, its functions, and the functions of its prototype.
use Rattle.std.specs.Option.{option_map_or}
use Rattle.std.specs.Prelude.{[], codes, false, is_some, map, not, true, ◌&&◌, ◌++◌, ◌∷◌, Bool, List, None, Option}
use Rattle.std.specs.Prelude.{Some, ℕ}
use Rattle.jl_value.specs.declared.builtin.Builtin.TheVariants as builtin
use Rattle.jl_value.specs.declared.builtin_groups.ObjectBuiltin.{ObjectBuiltin}
use Rattle.jl_value.specs.declared.builtin_groups.ObjectBuiltin.TheVariants as object_builtin
use Rattle.jl_value.specs.Texts.{class_name}
use Rattle.jl_value.specs.declared.object.Class.TheVariants as class
use Rattle.jl_value.specs.declared.object.ObjId.{ObjId}
use Rattle.jl_value.specs.declared.value.Value.{Value}
use Rattle.jl_value.specs.declared.value.Value.TheVariants as value
use Rattle.jl_heap.specs.Objects.{object_at, Name}
use Rattle.jl_heap.specs.Property.{is_configurable}
use Rattle.jl_heap.specs.declared.inner.Inner.TheVariants as inner
use Rattle.jl_heap.specs.declared.property.Change.{Change}
use Rattle.jl_heap.specs.declared.property.Prop.{Prop}
use Rattle.jl_heap.specs.declared.property.Prop.TheVariants.{Accessor, Plain}
use Rattle.jl_effects.specs.Effects.{Step}
use Rattle.jl_meaning.specs.Changes.{PreventExtensions}
use Rattle.jl_meaning.specs.Conversions.{to_object, to_string}
use Rattle.jl_meaning.specs.Errors.{throw_type_error}
use Rattle.jl_meaning.specs.Getting.{get}
use Rattle.jl_meaning.specs.Parts.{change_store, give, look, new_object, ◌>>=◌, Algorithm, Call}
use Rattle.jl_meaning.specs.Properties.{get_own_property}
use Rattle.jl_meaning.specs.Relations.{give_truth, is_prototype_of}
use Rattle.jl_meaning.specs.Store.{Store}
use Rattle.jl_meaning.specs.builtins.Arguments.{argument, define_or_throw, give_object, give_string, need_object}
use Rattle.jl_meaning.specs.builtins.Arguments.{unless_undefined, unsupported}
use Rattle.jl_meaning.specs.builtins.Descriptors.{change_of, enumerable_names, from_property_descriptor}
use Rattle.jl_meaning.specs.builtins.Descriptors.{has_enumerable, own_names, to_property_descriptor}
use Rattle.jl_meaning.specs.builtins.Elements.{array_in_turns}
use Rattle.jl_meaning.specs.builtins.Turns.{each}
use Rattle.jl_meaning.specs.forms.Literals.{new_plain_object}

-- a new object, or the object that a value converts to
abbrev pub object_for : Value → Algorithm ObjId
object_for value.Undefined = new_plain_object
object_for value.Null = new_plain_object
object_for v = to_object v

-- Object(value) and new Object(value) (15.2.1.1, 15.2.2.1)
abbrev pub object_call : Call → Algorithm Value
object_call c = do
  id ← object_for (argument c 0)
  give_object id

abbrev pub prototype_value : Option ObjId → Value
prototype_value None = value.Null
prototype_value (Some proto) = value.Obj proto

-- Object.getPrototypeOf(O) (15.2.3.2)
abbrev pub object_get_prototype_of : Call → Algorithm Value
object_get_prototype_of c = do
  id ← need_object (argument c 0)
  store ← look
  give (prototype_value (object_at store.heap id.0).proto)

-- Object.getOwnPropertyDescriptor(O, P) (15.2.3.3)
abbrev pub object_get_own_property_descriptor : Call → Algorithm Value
object_get_own_property_descriptor c = do
  id ← need_object (argument c 0)
  x ← to_string (argument c 1)
  store ← look
  from_property_descriptor (get_own_property store id.0 x)

-- an array of names, one turn for each
abbrev pub array_of_names : List Name → Algorithm Value
array_of_names names = array_in_turns (map (λ x. value.Text x) names)

-- Object.getOwnPropertyNames(O) (15.2.3.4)
abbrev pub object_get_own_property_names : Call → Algorithm Value
object_get_own_property_names c = do
  id ← need_object (argument c 0)
  store ← look
  array_of_names (own_names store id.0)

-- after those so far the changes that an object of descriptors has under these names (15.2.3.7, step 5), one turn for
-- each
abbrev pub changes_of : (descriptors : ObjId) → (so_far : List (Name × Change)) → List Name
    → Algorithm (List (Name × Change))
changes_of descriptors so_far [] = give so_far
changes_of descriptors so_far (x ∷ l) = Step do
  v ← get (value.Obj descriptors) x
  change ← to_property_descriptor v
  changes_of descriptors (so_far ++ (x, change) ∷ []) l

-- each property is defined (15.2.3.7, step 6)
abbrev pub define_each : ObjId → List (Name × Change) → Algorithm (Unit {0})
define_each id [] = give tt
define_each id ((x, change) ∷ l) = do
  _ ← define_or_throw id x change
  define_each id l

-- 15.2.3.7, steps 2 to 6
abbrev pub define_all : ObjId → Value → Algorithm (Unit {0})
define_all id v = do
  descriptors ← to_object v
  store ← look
  changes ← changes_of descriptors [] (enumerable_names store descriptors.0)
  define_each id changes

-- a prototype: an object, or null (15.2.3.5, step 1)
abbrev pub need_prototype : Value → Algorithm (Option ObjId)
need_prototype (value.Obj id) = give (Some id)
need_prototype value.Null = give None
need_prototype v = throw_type_error (codes "not an object")

-- Object.create(O, Properties) (15.2.3.5)
abbrev pub object_create : Call → Algorithm Value
object_create c = do
  proto ← need_prototype (argument c 0)
  id ← new_object class.Object proto inner.Nothing
  _ ← unless_undefined tt (define_all id) (argument c 1)
  give_object id

-- Object.defineProperty(O, P, Attributes) (15.2.3.6)
abbrev pub object_define_property : Call → Algorithm Value
object_define_property c = do
  id ← need_object (argument c 0)
  x ← to_string (argument c 1)
  change ← to_property_descriptor (argument c 2)
  _ ← define_or_throw id x change
  give_object id

-- Object.defineProperties(O, Properties) (15.2.3.7)
abbrev pub object_define_properties : Call → Algorithm Value
object_define_properties c = do
  id ← need_object (argument c 0)
  _ ← define_all id (argument c 1)
  give_object id

-- a property of its name is defined as it is, but for what becomes of it here; one that is gone stays so
abbrev pub redefine_if : (Prop → Prop) → ObjId → Name → Option Prop → Algorithm (Unit {0})
redefine_if f id x None = give tt
redefine_if f id x (Some p) = define_or_throw id x (change_of (f p))

abbrev pub redefine : (Prop → Prop) → ObjId → Name → Algorithm (Unit {0})
redefine f id x = do
  store ← look
  redefine_if f id x (get_own_property store id.0 x)

abbrev pub forbid_extensions : ObjId → Algorithm (Unit {0})
forbid_extensions id = change_store (PreventExtensions id)

-- each own property becomes another, one turn for each, and no more may be added (15.2.3.8, 15.2.3.9)
abbrev pub redefine_all : (Prop → Prop) → Call → Algorithm Value
redefine_all f c = do
  id ← need_object (argument c 0)
  store ← look
  _ ← each (redefine f id) (own_names store id.0)
  _ ← forbid_extensions id
  give_object id

abbrev pub sealed_property : Prop → Prop
sealed_property (Plain v writable enumerable configurable) = Plain v writable enumerable false
sealed_property (Accessor getter setter enumerable configurable) = Accessor getter setter enumerable false

abbrev pub frozen_property : Prop → Prop
frozen_property (Plain v writable enumerable configurable) = Plain v false enumerable false
frozen_property (Accessor getter setter enumerable configurable) = Accessor getter setter enumerable false

-- Object.seal(O) (15.2.3.8)
abbrev pub object_seal : Call → Algorithm Value
object_seal c = redefine_all sealed_property c

-- Object.freeze(O) (15.2.3.9)
abbrev pub object_freeze : Call → Algorithm Value
object_freeze c = redefine_all frozen_property c

-- Object.preventExtensions(O) (15.2.3.10)
abbrev pub object_prevent_extensions : Call → Algorithm Value
object_prevent_extensions c = do
  id ← need_object (argument c 0)
  _ ← forbid_extensions id
  give_object id

-- whether all of these properties are so, one turn for each
abbrev pub all_properties : (Prop → Bool) → ObjId → (so_far : Bool) → List Name → Algorithm Bool
all_properties test id so_far [] = give so_far
all_properties test id so_far (x ∷ l) = Step do
  store ← look
  all_properties test id (so_far && option_map_or test (get_own_property store id.0 x) true) l

-- all own properties are so, and no more may be added (15.2.3.11, 15.2.3.12)
abbrev pub are_all : (Prop → Bool) → Call → Algorithm Value
are_all test c = do
  id ← need_object (argument c 0)
  store ← look
  closed ← all_properties test id true (own_names store id.0)
  store ← look
  give_truth (closed && not (object_at store.heap id.0).extensible)

abbrev pub is_sealed_property : Prop → Bool
is_sealed_property p = not (is_configurable p)

abbrev pub is_frozen_property : Prop → Bool
is_frozen_property (Plain v writable enumerable configurable) = not writable && not configurable
is_frozen_property (Accessor getter setter enumerable configurable) = not configurable

-- Object.isSealed(O) (15.2.3.11)
abbrev pub object_is_sealed : Call → Algorithm Value
object_is_sealed c = are_all is_sealed_property c

-- Object.isFrozen(O) (15.2.3.12)
abbrev pub object_is_frozen : Call → Algorithm Value
object_is_frozen c = are_all is_frozen_property c

-- Object.isExtensible(O) (15.2.3.13)
abbrev pub object_is_extensible : Call → Algorithm Value
object_is_extensible c = do
  id ← need_object (argument c 0)
  store ← look
  give_truth (object_at store.heap id.0).extensible

-- Object.keys(O) (15.2.3.14)
abbrev pub object_keys : Call → Algorithm Value
object_keys c = do
  id ← need_object (argument c 0)
  store ← look
  array_of_names (enumerable_names store id.0)

abbrev pub give_class : List ℕ → Algorithm Value
give_class name = give_string (codes "[object " ++ name ++ codes "]")

-- Object.prototype.toString() (15.2.4.2)
abbrev pub class_text : Value → Algorithm Value
class_text value.Undefined = give_class (codes "Undefined")
class_text value.Null = give_class (codes "Null")
class_text v = do
  id ← to_object v
  store ← look
  give_class (class_name (object_at store.heap id.0).class)

abbrev pub object_to_string : Call → Algorithm Value
object_to_string c = class_text c.this

-- Object.prototype.valueOf() (15.2.4.4)
abbrev pub object_value_of : Call → Algorithm Value
object_value_of c = do
  id ← to_object c.this
  give_object id

-- whether `this` has an own property that is so (15.2.4.5, 15.2.4.7)
abbrev pub this_has : (Store → (address : ℕ) → Name → Bool) → Call → Algorithm Value
this_has test c = do
  x ← to_string (argument c 0)
  id ← to_object c.this
  store ← look
  give_truth (test store id.0 x)

-- Object.prototype.hasOwnProperty(V) (15.2.4.5)
abbrev pub object_has_own_property : Call → Algorithm Value
object_has_own_property c = this_has (λ store address x. is_some (get_own_property store address x)) c

-- Object.prototype.isPrototypeOf(V) (15.2.4.6)
abbrev pub is_prototype_of_value : Call → Value → Algorithm Value
is_prototype_of_value c (value.Obj id) = do
  proto ← to_object c.this
  store ← look
  give_truth (is_prototype_of store.heap proto.0 id.0)
is_prototype_of_value c v = give_truth false

abbrev pub object_is_prototype_of : Call → Algorithm Value
object_is_prototype_of c = is_prototype_of_value c (argument c 0)

-- Object.prototype.propertyIsEnumerable(V) (15.2.4.7)
abbrev pub object_property_is_enumerable : Call → Algorithm Value
object_property_is_enumerable c = this_has has_enumerable c

-- what a call of each does
abbrev pub object_algorithm : ObjectBuiltin → Call → Algorithm Value
object_algorithm object_builtin.Constructor c = object_call c
object_algorithm object_builtin.GetPrototypeOf c = object_get_prototype_of c
object_algorithm object_builtin.GetOwnPropertyDescriptor c = object_get_own_property_descriptor c
object_algorithm object_builtin.GetOwnPropertyNames c = object_get_own_property_names c
object_algorithm object_builtin.Create c = object_create c
object_algorithm object_builtin.DefineProperty c = object_define_property c
object_algorithm object_builtin.DefineProperties c = object_define_properties c
object_algorithm object_builtin.Seal c = object_seal c
object_algorithm object_builtin.Freeze c = object_freeze c
object_algorithm object_builtin.PreventExtensions c = object_prevent_extensions c
object_algorithm object_builtin.IsSealed c = object_is_sealed c
object_algorithm object_builtin.IsFrozen c = object_is_frozen c
object_algorithm object_builtin.IsExtensible c = object_is_extensible c
object_algorithm object_builtin.Keys c = object_keys c
object_algorithm object_builtin.ToString c = object_to_string c
object_algorithm object_builtin.ToLocaleString c = unsupported (builtin.Object object_builtin.ToLocaleString) c
object_algorithm object_builtin.ValueOf c = object_value_of c
object_algorithm object_builtin.HasOwnProperty c = object_has_own_property c
object_algorithm object_builtin.IsPrototypeOf c = object_is_prototype_of c
object_algorithm object_builtin.PropertyIsEnumerable c = object_property_is_enumerable c
