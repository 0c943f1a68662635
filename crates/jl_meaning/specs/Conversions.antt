-- What values convert to, where that may call functions or make objects (8.12.8, clause 9).
use Rattle.std.specs.Prelude.{[], codes, false, if◌then◌else◌, length, pos, true, Bool, List, None, Option, Some, ℕ}
use Rattle.std.specs.Prelude.{ℤ}
use Rattle.jl_num.specs.Bits.{uint32_of}
use Rattle.jl_num.specs.Number.{Number}
use Rattle.jl_value.specs.Tests.{is_object}
use Rattle.jl_value.specs.declared.object.Class.{Class}
use Rattle.jl_value.specs.declared.object.Class.TheVariants as class
use Rattle.jl_value.specs.declared.object.ObjId.{ObjId}
use Rattle.jl_value.specs.declared.value.Value.{Value}
use Rattle.jl_value.specs.declared.value.Value.TheVariants as value
use Rattle.jl_conv.specs.Conversions.{number_of_value, text_of_value}
use Rattle.jl_heap.specs.Define.{length_name}
use Rattle.jl_heap.specs.Objects.{Name}
use Rattle.jl_heap.specs.declared.inner.Inner.TheVariants as inner
use Rattle.jl_heap.specs.declared.property.Prop.TheVariants.{Plain}
use Rattle.jl_meaning.specs.Errors.{throw_type_error}
use Rattle.jl_meaning.specs.Getting.{get, is_callable}
use Rattle.jl_meaning.specs.Intrinsics.{boolean_prototype, number_prototype, string_prototype}
use Rattle.jl_meaning.specs.Parts.{add_property, call, give, look, new_object, or_fault, ◌>>=◌, Algorithm}
use Rattle.jl_meaning.specs.Parts.{NumberOutside}

-- the hint of a conversion to a primitive value: the type that is wanted, if any (9.1)
pub data Hint : Type 0 where
  no_hint : Hint
  number_hint : Hint
  string_hint : Hint

-- what a method of an object gives, where it can be called and gives a primitive value (8.12.8)
abbrev pub primitive_of_method : (object method : Value) → (callable : Bool) → Algorithm (Option Value)
primitive_of_method object (value.Obj method) true = do
  v ← call method object []
  give (if is_object v then None else Some v)
primitive_of_method object _ _ = give None

abbrev pub try_method : (object : Value) → Name → Algorithm (Option Value)
try_method object x = do
  method ← get object x
  store ← look
  primitive_of_method object method (is_callable store.heap method)

-- what was found, or else what is tried next
abbrev pub or_else : Algorithm (Option Value) → Option Value → Algorithm (Option Value)
or_else next (Some v) = give (Some v)
or_else next None = next

abbrev pub primitive_found : Option Value → Algorithm Value
primitive_found (Some v) = give v
primitive_found None = throw_type_error (codes "no primitive value")

-- one method of an object, and then the other
abbrev pub try_methods : (object : Value) → (first second : Name) → Algorithm Value
try_methods object first second = do
  tried ← try_method object first
  found ← or_else (try_method object second) tried
  primitive_found found

-- [[DefaultValue]] (8.12.8); no object here is a Date
abbrev pub default_value : (object : Value) → Hint → Algorithm Value
default_value object string_hint = try_methods object (codes "toString") (codes "valueOf")
default_value object _ = try_methods object (codes "valueOf") (codes "toString")

-- ToPrimitive (9.1)
unfoldable pub to_primitive : Hint → Value → Algorithm Value
to_primitive hint (value.Obj id) = default_value (value.Obj id) hint
to_primitive hint v = give v

-- ToNumber (9.3)
unfoldable pub to_number : Value → Algorithm Number
to_number v = do
  primitive ← to_primitive number_hint v
  or_fault NumberOutside (number_of_value primitive)

-- ToInteger of a number (9.4)
abbrev pub integer_of : Number → ℤ
integer_of None = pos 0
integer_of (Some z) = z

-- ToInteger (9.4)
abbrev pub to_integer : Value → Algorithm ℤ
to_integer v = do
  n ← to_number v
  give (integer_of n)

-- ToUint32 (9.6)
abbrev pub to_uint32 : Value → Algorithm ℕ
to_uint32 v = do
  n ← to_number v
  give (uint32_of n)

-- ToString (9.8)
unfoldable pub to_string : Value → Algorithm (List ℕ)
to_string v = do
  primitive ← to_primitive string_hint v
  give (text_of_value primitive)

-- CheckObjectCoercible (9.10)
unfoldable pub check_object_coercible : Value → Algorithm (Unit {0})
check_object_coercible value.Undefined = throw_type_error (codes "no property of undefined")
check_object_coercible value.Null = throw_type_error (codes "no property of null")
check_object_coercible v = give tt

-- a new object that stands for a primitive value (15.6.2.1, 15.7.2.1)
abbrev pub new_wrapper : Class → (proto : ObjId) → Value → Algorithm ObjId
new_wrapper kind proto v = new_object kind (Some proto) (inner.Wrapped v)

-- that of a string has its length (15.5.2.1, 15.5.5.1)
abbrev pub new_string_object : List ℕ → Algorithm ObjId
new_string_object units = do
  id ← new_wrapper class.String string_prototype (value.Text units)
  _ ← add_property id length_name (Plain (value.Num (Some (pos (length units)))) false false false)
  give id

-- ToObject (9.9)
unfoldable pub to_object : Value → Algorithm ObjId
to_object value.Undefined = throw_type_error (codes "no property of undefined")
to_object value.Null = throw_type_error (codes "no property of null")
to_object (value.Bool b) = new_wrapper class.Boolean boolean_prototype (value.Bool b)
to_object (value.Num n) = new_wrapper class.Number number_prototype (value.Num n)
to_object (value.Text units) = new_string_object units
to_object (value.Obj id) = give id
