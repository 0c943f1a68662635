-- Literals: primitive values, arrays, objects and functions (7.8, 11.1.3 to 11.1.5, clause 13).
use Rattle.std.specs.Prelude.{true, Bool, None, Option, Some, ℕ}
use Rattle.jl_num.specs.Digits.{digits_of}
use Rattle.jl_value.specs.declared.object.Class.{Class}
use Rattle.jl_value.specs.declared.object.Class.TheVariants as class
use Rattle.jl_value.specs.declared.object.ObjId.{ObjId}
use Rattle.jl_value.specs.declared.value.Value.{Value}
use Rattle.jl_value.specs.declared.value.Value.TheVariants as value
use Rattle.jl_heap.specs.Define.{length_name}
use Rattle.jl_heap.specs.Describe.{seen_of}
use Rattle.jl_heap.specs.Objects.{object_at, Name, Objects}
use Rattle.jl_heap.specs.declared.inner.Inner.{Inner}
use Rattle.jl_heap.specs.declared.inner.Inner.TheVariants as inner
use Rattle.jl_heap.specs.declared.property.Change.{Change}
use Rattle.jl_op.specs.declared.op.Op.{Op}
use Rattle.jl_op.specs.declared.op.Op.TheVariants as op
use Rattle.jl_meaning.specs.Defining.{define_own_property, no_change, plain_change, value_change}
use Rattle.jl_meaning.specs.FunctionObjects.{script_number, whole}
use Rattle.jl_meaning.specs.Intrinsics.{array_prototype, object_prototype}
use Rattle.jl_meaning.specs.Noting.{note_or_misuse, performs, Noting}
use Rattle.jl_meaning.specs.Parts.{lift, look, new_object, ◌>>=◌, Algorithm, Answer, Part}

-- what a function literal has made, by the number of the function
abbrev pub function_literal : ObjId → Option ℕ → Option Op
function_literal id None = None
function_literal id (Some number) = Some (op.FunctionLiteral id number)

-- what a literal has made, by the class of the object and its inner part
abbrev pub object_literal : ObjId → Class → Inner → Option Op
object_literal id class.Array i = Some (op.ArrayLiteral id)
object_literal id class.Function i = function_literal id (script_number i)
object_literal id kind i = Some (op.ObjectLiteral id)

-- the operation of a literal with this value; no literal gives undefined, or another function than one of the script
abbrev pub literal_op : Objects → Value → Option Op
literal_op heap value.Undefined = None
literal_op heap (value.Obj id) = object_literal id (object_at heap id.0).class (object_at heap id.0).inner
literal_op heap v = Some (op.Literal (seen_of heap v))

-- a literal, when its value is made
unfoldable pub literal : Noting → (id : ℕ) → Value → Part (Answer Value)
literal how id v = do
  store ← look
  note_or_misuse how id v (literal_op store.heap v)

-- the operation of a form is of its own kind: an array literal has made an array, and so on
abbrev pub of_array : Option Op → Option Op
of_array (Some (op.ArrayLiteral id)) = Some (op.ArrayLiteral id)
of_array _ = None

abbrev pub of_object : Option Op → Option Op
of_object (Some (op.ObjectLiteral id)) = Some (op.ObjectLiteral id)
of_object _ = None

abbrev pub of_function : Option Op → Option Op
of_function (Some (op.FunctionLiteral id number)) = Some (op.FunctionLiteral id number)
of_function _ = None

unfoldable pub literal_of : (form : Option Op → Option Op) → (id : ℕ) → Value → Part (Answer Value)
literal_of form id v = do
  store ← look
  note_or_misuse performs id v (form (literal_op store.heap v))

-- [ ] (11.1.4), and new Array() (15.4.2.1)
abbrev pub new_array : Algorithm ObjId
new_array = new_object class.Array (Some array_prototype) inner.Nothing

-- { } (11.1.5)
abbrev pub new_plain_object : Algorithm ObjId
new_plain_object = new_object class.Object (Some object_prototype) inner.Nothing

-- the name of an index (9.8.1)
abbrev pub index_name : ℕ → Name
index_name k = digits_of 10 k

-- an element of an array literal (11.1.4)
unfoldable pub put_element : (array : ObjId) → (index : ℕ) → Value → Algorithm Bool
put_element array index v = define_own_property array (index_name index) (plain_change v)

-- an array that has been filled is given its length (11.1.4)
unfoldable pub end_array : (id : ℕ) → (array : ObjId) → (length : ℕ) → Part (Answer Value)
end_array id array n = do
  _ ← lift (define_own_property array length_name (value_change (whole n)))
  literal_of of_array id (value.Obj array)

-- the getter or setter of a property in an object literal (11.1.5)
abbrev pub accessor_change : (get set : Option (Option ObjId)) → Change
accessor_change get set = record no_change { get = get; set = set; enumerable = Some true; configurable = Some true }

-- a property of an object literal (11.1.5)
unfoldable pub define_entry : ObjId → Name → Change → Part (Answer Bool)
define_entry object x change = lift (define_own_property object x change)
