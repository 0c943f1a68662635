-- The store that a run begins with (clause 15): sixteen objects, and then a function object for each builtin but
-- `Function.prototype`, which is one of the sixteen, and `bound`. Properties are made object by object: first those that
-- no call gives, and then functions in the order of the table.
use Rattle.std.specs.List.{after_first, list_any}
use Rattle.std.specs.Prelude.{[], codes, false, filter, if◌then◌else◌, length, map, true, ◌++◌, ◌+◌, ◌==◌, ◌∷◌, Bool}
use Rattle.std.specs.Prelude.{List, None, Option, Some, ℕ}
use Rattle.jl_value.specs.BuiltinPlaces.{place_of_builtin, prototype}
use Rattle.jl_value.specs.Builtins.{builtins, entry_of, name_of}
use Rattle.jl_value.specs.Intrinsics.{array_prototype, boolean_prototype, console, error_prototype, function_prototype}
use Rattle.jl_value.specs.Intrinsics.{global_object, math, number_prototype, object_prototype, string_prototype}
use Rattle.jl_value.specs.declared.builtin.Builtin.{Builtin}
use Rattle.jl_value.specs.declared.builtin.Builtin.TheVariants as builtin
use Rattle.jl_value.specs.declared.builtin.Holder.{Holder}
use Rattle.jl_value.specs.declared.builtin.Holder.TheVariants as holder
use Rattle.jl_value.specs.declared.builtin_groups.ArrayBuiltin.TheVariants as array_builtin
use Rattle.jl_value.specs.declared.builtin_groups.BooleanBuiltin.TheVariants as boolean_builtin
use Rattle.jl_value.specs.declared.builtin_groups.ErrorBuiltin.{ErrorBuiltin}
use Rattle.jl_value.specs.declared.builtin_groups.ErrorBuiltin.TheVariants as error_builtin
use Rattle.jl_value.specs.declared.builtin_groups.FunctionBuiltin.TheVariants as function_builtin
use Rattle.jl_value.specs.declared.builtin_groups.NumberBuiltin.TheVariants as number_builtin
use Rattle.jl_value.specs.declared.builtin_groups.ObjectBuiltin.TheVariants as object_builtin
use Rattle.jl_value.specs.declared.builtin_groups.StringBuiltin.TheVariants as string_builtin
use Rattle.jl_value.specs.declared.object.Class.{Class}
use Rattle.jl_value.specs.declared.object.Class.TheVariants as class
use Rattle.jl_value.specs.declared.object.ObjId.{ObjId}
use Rattle.jl_value.specs.declared.value.Value.{Value}
use Rattle.jl_value.specs.declared.value.Value.TheVariants as value
use Rattle.jl_props.specs.declared.entries.Entry.{Entry}
use Rattle.jl_heap.specs.Define.{length_name}
use Rattle.jl_heap.specs.Objects.{Name, Object}
use Rattle.jl_heap.specs.declared.inner.Inner.{Inner}
use Rattle.jl_heap.specs.declared.inner.Inner.TheVariants as inner
use Rattle.jl_heap.specs.declared.property.Prop.{Prop}
use Rattle.jl_heap.specs.declared.property.Prop.TheVariants.{Plain}
use Rattle.jl_meaning.specs.FunctionObjects.{whole}
use Rattle.jl_meaning.specs.Store.{no_environment, Store}

-- an object as a run begins with it, with its properties in the order in which they are made
pub record InitialObject : Type 0 where
  pub class : Class
  pub proto : Option ObjId
  pub extensible : Bool
  pub inner : Inner
  pub properties : List (Name × Prop)

-- a property that can be written and deleted, and one that stays as it is; neither is enumerable
abbrev pub changeable : Name → Value → Name × Prop
changeable x v = (x, Plain v true false true)

abbrev pub constant : Name → Value → Name × Prop
constant x v = (x, Plain v false false false)

abbrev pub is_dot : ℕ → Bool
is_dot unit = unit == 46

-- the last part of a path, which has at most two dots
abbrev pub last_part : List ℕ → List ℕ
last_part path =
    let rest = if list_any is_dot path then after_first is_dot path else path in
    if list_any is_dot rest then after_first is_dot rest else rest

-- the function of a builtin, as a property by the last part of its path
abbrev pub function_property : Builtin → Name × Prop
function_property b = changeable (last_part (name_of b)) (value.Obj (place_of_builtin b))

-- the functions that an object has as properties, in the order of the table
abbrev pub holds : ObjId → Holder → Bool
holds id holder.Nothing = false
holds id (holder.Object other) = id.0 == other.0
holds id (holder.Builtin b) = id.0 == (place_of_builtin b).0

abbrev pub functions_of : ObjId → List (Name × Prop)
functions_of id = map function_property (filter (λ (b : Builtin). holds id (entry_of b).holder) builtins)

-- the property of a prototype that is its constructor (15.2.4.1 and the like)
abbrev pub constructor_property : Builtin → Name × Prop
constructor_property b = changeable (codes "constructor") (value.Obj (place_of_builtin b))

abbrev pub initial : Class → Inner → List (Name × Prop) → InitialObject
initial kind i properties =
    record { class = kind; proto = Some object_prototype; extensible = true; inner = i; properties = properties }

-- the prototype of a kind of errors (15.11.4, 15.11.7.7)
abbrev pub error_prototype_object : ErrorBuiltin → (proto : ObjId) → List (Name × Prop) → InitialObject
error_prototype_object b proto more = record {
  class = class.Error;
  proto = Some proto;
  extensible = true;
  inner = inner.Nothing;
  properties =
      constructor_property (builtin.Error b) ∷ changeable (codes "name") (value.Text (name_of (builtin.Error b)))
      ∷ changeable (codes "message") (value.Text []) ∷ more;
}

abbrev pub first_objects : List InitialObject
first_objects =
    -- Object.prototype (15.2.4)
    record {
      class = class.Object;
      proto = None;
      extensible = true;
      inner = inner.Nothing;
      properties = constructor_property (builtin.Object object_builtin.Constructor) ∷ functions_of object_prototype;
    }
    -- the global object (15.1)
    ∷ initial class.Object inner.Nothing (
    constant (codes "NaN") (value.Num None) ∷ constant (codes "undefined") value.Undefined
    ∷ changeable (codes "Math") (value.Obj math) ∷ changeable (codes "console") (value.Obj console)
    ∷ functions_of global_object)
    -- Function.prototype (15.3.4)
    ∷ initial class.Function (inner.Native prototype) (
    constructor_property (builtin.Function function_builtin.Constructor) ∷ constant length_name (whole 0)
    ∷ functions_of function_prototype)
    -- Array.prototype (15.4.4), which is an array
    ∷ initial class.Array inner.Nothing (
    (length_name, Plain (whole 0) true false false)
    ∷ constructor_property (builtin.Array array_builtin.Constructor) ∷ functions_of array_prototype)
    -- String.prototype (15.5.4), Number.prototype (15.7.4) and Boolean.prototype (15.6.4)
    ∷ initial class.String (inner.Wrapped (value.Text [])) (
    constructor_property (builtin.String string_builtin.Constructor) ∷ constant length_name (whole 0)
    ∷ functions_of string_prototype)
    ∷ initial class.Number (inner.Wrapped (whole 0)) (
    constructor_property (builtin.Number number_builtin.Constructor) ∷ functions_of number_prototype)
    ∷ initial class.Boolean (inner.Wrapped (value.Bool false)) (
    constructor_property (builtin.Boolean boolean_builtin.Constructor) ∷ functions_of boolean_prototype)
    -- Error.prototype (15.11.4), and those of the native errors (15.11.7.7)
    ∷ error_prototype_object error_builtin.Error object_prototype (functions_of error_prototype)
    ∷ error_prototype_object error_builtin.EvalError error_prototype []
    ∷ error_prototype_object error_builtin.RangeError error_prototype []
    ∷ error_prototype_object error_builtin.ReferenceError error_prototype []
    ∷ error_prototype_object error_builtin.SyntaxError error_prototype []
    ∷ error_prototype_object error_builtin.TypeError error_prototype []
    ∷ error_prototype_object error_builtin.UriError error_prototype []
    -- Math (15.8), and `console`
    ∷ initial class.Math inner.Nothing (functions_of math) ∷ initial class.Object inner.Nothing (functions_of console)
    ∷ []

-- the prototype of what a constructor constructs, as a property of the constructor, which also has its own functions
abbrev pub prototype_constant : Option ObjId → List (Name × Prop)
prototype_constant None = []
prototype_constant (Some id) = constant (codes "prototype") (value.Obj id) ∷ []

abbrev pub functions_of_constructor : Option ObjId → Builtin → List (Name × Prop)
functions_of_constructor None b = []
functions_of_constructor (Some id) b = functions_of (place_of_builtin b)

-- Number.NaN (15.7.3.4)
abbrev pub own_constants : Builtin → List (Name × Prop)
own_constants (builtin.Number number_builtin.Constructor) = constant (codes "NaN") (value.Num None) ∷ []
own_constants b = []

-- only the function that throws a TypeError is not extensible (13.2.3)
abbrev pub is_extensible_function : Builtin → Bool
is_extensible_function (builtin.Function function_builtin.Thrower) = false
is_extensible_function b = true

-- the function object of a builtin (15)
abbrev pub function_object : Builtin → InitialObject
function_object b = record {
  class = class.Function;
  proto = Some function_prototype;
  extensible = is_extensible_function b;
  inner = inner.Native b;
  properties =
      own_constants b ++ prototype_constant (entry_of b).prototype ++ constant length_name (whole (entry_of b).length)
      ∷ functions_of_constructor (entry_of b).prototype b;
}

-- whether a builtin has a function object behind the first objects
abbrev pub has_function_object : Builtin → Bool
has_function_object (builtin.Function function_builtin.Prototype) = false
has_function_object (builtin.Function function_builtin.Bound) = false
has_function_object b = true

abbrev pub function_objects : List InitialObject
function_objects = map function_object (filter has_function_object builtins)

-- the properties with their serials, from one on
abbrev pub entries_from : (serial : ℕ) → List (Name × Prop) → List (Entry Prop)
entries_from serial [] = []
entries_from serial ((x, p) ∷ l) = record { name = x; serial = serial; item = p } ∷ entries_from (serial + 1) l

-- the objects, whose properties have the serials from one on
abbrev pub objects_from : (serial : ℕ) → List InitialObject → List Object
objects_from serial [] = []
objects_from serial (o ∷ l) =
    record {
      class = o.class;
      proto = o.proto;
      extensible = o.extensible;
      inner = o.inner;
      properties = entries_from serial o.properties;
    } ∷ objects_from (serial + length o.properties) l

abbrev pub count_properties : List InitialObject → ℕ
count_properties [] = 0
count_properties (o ∷ l) = length o.properties + count_properties l

unfoldable pub initial_objects : List InitialObject
initial_objects = first_objects ++ function_objects

-- the store that a run begins with
unfoldable pub realm : Store
realm = record {
  heap = record { objects = objects_from 0 initial_objects; next = count_properties initial_objects };
  environments = no_environment ∷ [];
}
