-- The steps by which the objects that a run begins with are made, as changes of the store.
use Rattle.std.specs.List.{flat_map}
use Rattle.std.specs.Prelude.{[], codes, false, if◌then◌else◌, is_some, length, nat_lt, not, true, ◌&&◌, ◌∷◌}
use Rattle.std.specs.Prelude.{Bool, List, None, Option, Some}
use Rattle.jl_value.specs.BuiltinPlaces.{place_of_builtin}
use Rattle.jl_value.specs.Builtins.{entry_of, name_of}
use Rattle.jl_value.specs.declared.builtin.Builtin.{Builtin}
use Rattle.jl_value.specs.declared.builtin.Builtin.TheVariants as builtin
use Rattle.jl_value.specs.declared.builtin_groups.FunctionBuiltin.TheVariants as function_builtin
use Rattle.jl_value.specs.declared.builtin_groups.NumberBuiltin.TheVariants as number_builtin
use Rattle.jl_value.specs.declared.object.Class.TheVariants as class
use Rattle.jl_value.specs.declared.object.ObjId.{ObjId}
use Rattle.jl_value.specs.declared.value.Value.{Value}
use Rattle.jl_value.specs.declared.value.Value.TheVariants as value
use Rattle.jl_heap.specs.Define.{length_name}
use Rattle.jl_heap.specs.Objects.{own, Name}
use Rattle.jl_heap.specs.declared.inner.Inner.{Inner}
use Rattle.jl_heap.specs.declared.inner.Inner.TheVariants as inner
use Rattle.jl_heap.specs.declared.property.Prop.TheVariants.{Plain}
use Rattle.jl_meaning.specs.Changes.{NewObject, NewProperty, PreventExtensions, StoreChange}
use Rattle.jl_meaning.specs.FunctionObjects.{whole}
use Rattle.jl_meaning.specs.Intrinsics.{function_prototype}
use Rattle.jl_meaning.specs.Realm.{has_function_object, holds, last_part}
use Rattle.jl_meaning.specs.Store.{Store}
use Rattle.jl_store.specs.Changes.{after}
use Rattle.jl_realm.specs.declared.steps.Initial.{Initial}
use Rattle.jl_realm.specs.declared.steps.Initial.TheVariants as initial
use Rattle.jl_realm.specs.declared.steps.Inside.{Inside}
use Rattle.jl_realm.specs.declared.steps.Inside.TheVariants as inside
use Rattle.jl_realm.specs.declared.steps.Step.{Step}
use Rattle.jl_realm.specs.declared.steps.Step.TheVariants as step
use Rattle.jl_realm.specs.declared.steps.Word.{Word}
use Rattle.jl_realm.specs.declared.steps.Word.TheVariants as word

abbrev pub word_text : Word → Name
word_text word.Console = codes "console"
word_text word.Constructor = codes "constructor"
word_text word.Length = length_name
word_text word.Math = codes "Math"
word_text word.Message = codes "message"
word_text word.NaN = codes "NaN"
word_text word.Name = codes "name"
word_text word.Prototype = codes "prototype"
word_text word.Undefined = codes "undefined"

abbrev pub value_of : Initial → Value
value_of initial.Undefined = value.Undefined
value_of initial.NaN = value.Num None
value_of initial.False = value.Bool false
value_of initial.Empty = value.Text []
value_of (initial.Count n) = whole n
value_of (initial.Object id) = value.Obj id
value_of (initial.Function b) = value.Obj (place_of_builtin b)
value_of (initial.Name b) = value.Text (name_of b)

abbrev pub inner_of : Inside → Inner
inner_of inside.Nothing = inner.Nothing
inner_of (inside.Native b) = inner.Native b
inner_of (inside.Wrapped v) = inner.Wrapped (value_of v)

-- a property of an object that can be written and deleted or stays as it is
abbrev pub property_added : (holder : ObjId) → Word → Initial → (changeable : Bool) → List StoreChange
property_added holder x v changeable =
    NewProperty holder (word_text x) (Plain (value_of v) changeable false changeable) ∷ []

-- a function becomes a property of an object, if that is the one that has it
abbrev pub function_named : (holder : ObjId) → Builtin → List StoreChange
function_named holder b =
    NewProperty holder (last_part (name_of b)) (Plain (value.Obj (place_of_builtin b)) true false true) ∷ []

abbrev pub function_held : (holder : ObjId) → Builtin → List StoreChange
function_held holder b = if holds holder (entry_of b).holder then function_named holder b else []

-- what a step does to the store, where these are all builtins
abbrev pub changes_of : List Builtin → Step → List StoreChange
changes_of all step.Nothing = []
changes_of all (step.Object kind proto i) = NewObject kind proto (inner_of i) ∷ []
changes_of all (step.Changeable holder x v) = property_added holder x v true
changes_of all (step.Constant holder x v) = property_added holder x v false
changes_of all (step.Functions holder) = flat_map (function_held holder) all
changes_of all (step.Close id) = PreventExtensions id ∷ []

-- the steps by which the object of a builtin is made: beside its length Number has a NaN (15.7.3.4), a constructor has
-- the prototype of what it constructs and functions of its own, and the function that throws a TypeError is not
-- extensible (13.2.3)

abbrev pub own_step : Builtin → (at : ObjId) → Step
own_step (builtin.Number number_builtin.Constructor) at = step.Constant at word.NaN initial.NaN
own_step b at = step.Nothing

abbrev pub prototype_step : (prototype : Option ObjId) → (at : ObjId) → Step
prototype_step (Some id) at = step.Constant at word.Prototype (initial.Object id)
prototype_step None at = step.Nothing

abbrev pub functions_step : (prototype : Option ObjId) → (at : ObjId) → Step
functions_step (Some id) at = step.Functions at
functions_step None at = step.Nothing

abbrev pub closing_step : Builtin → (at : ObjId) → Step
closing_step (builtin.Function function_builtin.Thrower) at = step.Close at
closing_step b at = step.Nothing

abbrev pub steps_for : Builtin → List Step
steps_for b =
    let at = place_of_builtin b in
    let prototype = (entry_of b).prototype in
    step.Object class.Function (Some function_prototype) (inside.Native b) ∷ own_step b at
    ∷ prototype_step prototype at ∷ step.Constant at word.Length (initial.Count (entry_of b).length)
    ∷ functions_step prototype at ∷ closing_step b at ∷ []

-- the object of a builtin is made, if it has one behind the first objects
abbrev pub function_made : List Builtin → Builtin → List StoreChange
function_made all b = if has_function_object b then flat_map (changes_of all) (steps_for b) else []

-- whether a builtin is an object when a run begins
abbrev pub has_place : Builtin → Bool
has_place (builtin.Function function_builtin.Bound) = false
has_place b = true

abbrev pub value_fits : Initial → Bool
value_fits (initial.Function b) = has_place b
value_fits v = true

abbrev pub inside_fits : Inside → Bool
inside_fits (inside.Wrapped v) = value_fits v
inside_fits i = true

abbrev pub step_fits : Step → Bool
step_fits (step.Object kind proto i) = inside_fits i
step_fits (step.Changeable holder x v) = value_fits v
step_fits (step.Constant holder x v) = value_fits v
step_fits s = true

-- the store after these changes
abbrev pub after_all : List StoreChange → Store → Store
after_all [] store = store
after_all (c ∷ cs) store = after_all cs (after c store)

-- whether a property is new on an object that is there
abbrev pub is_ready : StoreChange → Store → Bool
is_ready (NewProperty id x p) store = nat_lt id.0 (length store.heap.objects) && not (is_some (own store.heap id.0 x))
is_ready _ store = true

abbrev pub all_ready : List StoreChange → Store → Bool
all_ready [] store = true
all_ready (c ∷ cs) store = is_ready c store && all_ready cs (after c store)
