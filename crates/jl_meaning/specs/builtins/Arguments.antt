-- What the sections of clause 15 ask of arguments and of `this`.
use Rattle.std.specs.Prelude.{codes, false, slice_index_or, true, Bool, List, None, Option, Some, ℕ}
use Rattle.jl_value.specs.declared.builtin.Builtin.{Builtin}
use Rattle.jl_value.specs.declared.object.Class.{Class}
use Rattle.jl_value.specs.declared.object.ObjId.{ObjId}
use Rattle.jl_value.specs.declared.value.Value.{Value}
use Rattle.jl_value.specs.declared.value.Value.TheVariants as value
use Rattle.jl_heap.specs.Objects.{Name}
use Rattle.jl_heap.specs.declared.property.Change.{Change}
use Rattle.jl_effects.specs.Effects.{Fail}
use Rattle.jl_meaning.specs.Conversions.{check_object_coercible, new_wrapper, to_string}
use Rattle.jl_meaning.specs.Defining.{define_own_property}
use Rattle.jl_meaning.specs.Errors.{require, throw_type_error}
use Rattle.jl_meaning.specs.Getting.{is_callable}
use Rattle.jl_meaning.specs.Parts.{give, look, ◌>>=◌, Algorithm, Call, Unsupported}

-- an argument; one that isn't given is undefined
abbrev pub argument_at : List Value → ℕ → Value
argument_at args i = slice_index_or args i value.Undefined

abbrev pub argument : Call → ℕ → Value
argument c i = argument_at c.args i

-- a builtin that is there, and is left out
abbrev pub unsupported : Builtin → Call → Algorithm Value
unsupported b c = Fail (Unsupported b)

-- the argument has to be an object
abbrev pub need_object : Value → Algorithm ObjId
need_object (value.Obj id) = give id
need_object v = throw_type_error (codes "not an object")

abbrev pub function_if : (callable : Bool) → Value → Algorithm ObjId
function_if true (value.Obj id) = give id
function_if callable v = throw_type_error (codes "not a function")

-- the argument has to be a function (9.11)
abbrev pub need_function : Value → Algorithm ObjId
need_function v = do
  store ← look
  function_if (is_callable store.heap v) v

-- what `this` stands for, where it has the class that is asked for
abbrev pub need_receiver : {A : Type 0} → Option A → Algorithm A
need_receiver (Some a) = give a
need_receiver None = throw_type_error (codes "wrong receiver")

-- CheckObjectCoercible and ToString of `this` (15.5.4)
abbrev pub string_of_this : Call → Algorithm (List ℕ)
string_of_this c = do
  _ ← check_object_coercible c.this
  to_string c.this

-- what is made of a value, or this where it is undefined
abbrev pub unless_undefined : {A : Type 0} → A → (Value → Algorithm A) → Value → Algorithm A
unless_undefined other k value.Undefined = give other
unless_undefined other k v = k v

abbrev pub give_string : List ℕ → Algorithm Value
give_string units = give (value.Text units)

abbrev pub give_object : ObjId → Algorithm Value
give_object id = give (value.Obj id)

-- [[DefineOwnProperty]] that throws where it is rejected
abbrev pub define_or_throw : ObjId → Name → Change → Algorithm (Unit {0})
define_or_throw id x change = do
  done ← define_own_property id x change
  require done (codes "cannot define")

-- a primitive value, or with `new` an object that stands for it (15.6.2.1, 15.7.2.1)
abbrev pub value_or_object : (by_new : Bool) → Class → (proto : ObjId) → Value → Algorithm Value
value_or_object false kind proto v = give v
value_or_object true kind proto v = do
  id ← new_wrapper kind proto v
  give_object id
