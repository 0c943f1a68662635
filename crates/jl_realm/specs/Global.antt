-- The global object, as a program's declarations need it, and their steps (10.5).
use Rattle.std.specs.Prelude.{false, true, ◌≡◌, Bool, IsSome, Option, Some}
use Rattle.jl_value.specs.declared.object.Class.TheVariants as class
use Rattle.jl_value.specs.declared.value.Value.{Value}
use Rattle.jl_heap.specs.Objects.{object_at, Object}
use Rattle.jl_heap.specs.declared.inner.Inner.TheVariants as inner
use Rattle.jl_heap.specs.declared.property.Change.{Change}
use Rattle.jl_heap.specs.declared.property.Prop.TheVariants.{Accessor}
use Rattle.jl_meaning.specs.DeclarationBinding.{declare_global_function}
use Rattle.jl_meaning.specs.Defining.{plain_change, value_change}
use Rattle.jl_meaning.specs.FunctionObjects.{function_name, make_function}
use Rattle.jl_meaning.specs.Intrinsics.{global_object}
use Rattle.jl_meaning.specs.Parts.{◌>>=◌, Algorithm, Context, Func}
use Rattle.jl_meaning.specs.Properties.{Property}
use Rattle.jl_meaning.specs.Store.{Store}
use Rattle.jl_store.specs.declared.answer.Finished.{Finished}
use Rattle.jl_store.specs.declared.answer.Finished.TheVariants as ended

-- an object that is no array, has no units and is mapped to no parameters, and has a prototype
pub record IsOrdinary (object : Object) : Type 0 where
  pub class : object.class ≡ class.Object
  pub inner : object.inner ≡ inner.Nothing
  pub proto : IsSome object.proto

-- the global object is there, and is such a one
pub record HasGlobalObject (store : Store) : Type 0 where
  pub ordinary : IsOrdinary (object_at store.heap global_object.0)

-- whether no getter and no setter is called for a property, or none
abbrev pub is_no_accessor : Option Property → Bool
is_no_accessor (Some (_, Accessor _ _ _ _)) = false
is_no_accessor _ = true

-- what a put asks of an object where no setter takes the value (8.12.5, steps 3 and 6)
abbrev pub put_change : Value → Option Property → Change
put_change v (Some (true, _)) = value_change v
put_change v _ = plain_change v

-- a declared function of the program is made, and then bound (10.5, step 5)
abbrev pub declare_made : Func → Context → Algorithm (Unit {0})
declare_made f c = do
  id ← make_function c.strict c.env f
  declare_global_function c.strict (function_name f) id

abbrev pub is_no_fault : {A : Type 0} → Finished A → Bool
is_no_fault (ended.Fails f) = false
is_no_fault _ = true
