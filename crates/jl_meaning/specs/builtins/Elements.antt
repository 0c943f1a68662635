-- Indices, lengths and elements of objects that are taken for arrays (15.4.4, 15.5.4).
use Rattle.std.specs.Prelude.{[], false, length, min, negsuc, pos, suc, true, ◌+◌, ◌-◌, ◌∷◌, Bool, List, None, Option}
use Rattle.std.specs.Prelude.{Some, ℕ, ℤ}
use Rattle.jl_num.specs.Arithmetic.{number_of}
use Rattle.jl_value.specs.declared.object.ObjId.{ObjId}
use Rattle.jl_value.specs.declared.value.Value.{Value}
use Rattle.jl_value.specs.declared.value.Value.TheVariants as value
use Rattle.jl_heap.specs.Define.{length_name}
use Rattle.jl_effects.specs.Effects.{Step}
use Rattle.jl_meaning.specs.Conversions.{to_integer, to_uint32}
use Rattle.jl_meaning.specs.Defining.{define_own_property, plain_change, value_change}
use Rattle.jl_meaning.specs.FunctionObjects.{whole}
use Rattle.jl_meaning.specs.Getting.{get}
use Rattle.jl_meaning.specs.Operators.{give_number}
use Rattle.jl_meaning.specs.Parts.{give, look, ◌>>=◌, Algorithm}
use Rattle.jl_meaning.specs.Properties.{has_property}
use Rattle.jl_meaning.specs.Putting.{delete, put}
use Rattle.jl_meaning.specs.Store.{Store}
use Rattle.jl_meaning.specs.builtins.Arguments.{give_object, unless_undefined}
use Rattle.jl_meaning.specs.builtins.Turns.{upward}
use Rattle.jl_meaning.specs.forms.Literals.{index_name, new_array}

-- an integer as an index: min(max(z, 0), length)
abbrev pub clamp : ℤ → (length : ℕ) → ℕ
clamp (pos n) length = min n length
clamp (negsuc n) length = 0

-- the index that an integer says, counted from the end where it is below zero: max(length + z, 0) or min(z, length)
abbrev pub relative_index : ℤ → (length : ℕ) → ℕ
relative_index (pos n) length = min n length
relative_index (negsuc n) length = length - suc n

-- ToInteger of an end, which is the length where it is undefined
abbrev pub to_end : Value → (length : ℕ) → Algorithm ℤ
to_end v length = unless_undefined (pos length) to_integer v

-- an index that was found, or -1
abbrev pub index_or_none : Option ℕ → Value
index_or_none (Some k) = whole k
index_or_none None = value.Num (Some (negsuc 0))

-- a number that is stored or given, which may be outside
abbrev pub give_count : ℕ → Algorithm Value
give_count n = give_number (number_of (pos n))

-- ToUint32 of `length` (15.4.4)
abbrev pub get_length : ObjId → Algorithm ℕ
get_length o = do
  v ← get (value.Obj o) length_name
  to_uint32 v

-- [[Put]] of `length`, and of an element, which throw where they aren't done
abbrev pub put_length : ObjId → (length : ℕ) → Algorithm (Unit {0})
put_length o n = do
  v ← give_count n
  put true (value.Obj o) length_name v

abbrev pub put_index : ObjId → ℕ → Value → Algorithm (Unit {0})
put_index o k v = put true (value.Obj o) (index_name k) v

-- it is given its length, which is the result as well
abbrev pub give_length : ObjId → ℕ → Algorithm Value
give_length o n = do
  _ ← put_length o n
  give_count n

abbrev pub get_index : ObjId → ℕ → Algorithm Value
get_index o k = get (value.Obj o) (index_name k)

abbrev pub delete_index : ObjId → ℕ → Algorithm (Unit {0})
delete_index o k = do
  _ ← delete true (value.Obj o) (index_name k)
  give tt

-- an element of a new array (15.4.5.1)
abbrev pub add_index : (array : ObjId) → ℕ → Value → Algorithm (Unit {0})
add_index a k v = do
  _ ← define_own_property a (index_name k) (plain_change v)
  give tt

-- the element at an index, if HasProperty finds one there
abbrev pub element_if : Bool → ObjId → ℕ → Algorithm (Option Value)
element_if true o k = do
  v ← get_index o k
  give (Some v)
element_if false o k = give None

abbrev pub has_index : Store → ObjId → ℕ → Bool
has_index store o k = has_property store o.0 (index_name k)

abbrev pub element : ObjId → ℕ → Algorithm (Option Value)
element o k = do
  store ← look
  element_if (has_index store o k) o k

-- the element at one index is put at another, and where there is none the other is deleted
abbrev pub put_or_delete : ObjId → (to : ℕ) → Option Value → Algorithm (Unit {0})
put_or_delete o to (Some v) = put_index o to v
put_or_delete o to None = delete_index o to

abbrev pub move_element : ObjId → (from to : ℕ) → Algorithm (Unit {0})
move_element o from to = do
  v ← element o from
  put_or_delete o to v

-- values are put from an index on, one a turn; it gives the index after them
abbrev pub put_all : ObjId → ℕ → List Value → Algorithm ℕ
put_all o k [] = give k
put_all o k (v ∷ vs) = Step do
  _ ← put_index o k v
  put_all o (k + 1) vs

-- an element of a new array, if there is one
abbrev pub add_if : (array : ObjId) → ℕ → Option Value → Algorithm (Unit {0})
add_if a k None = give tt
add_if a k (Some v) = add_index a k v

abbrev pub copy_element : (from : ObjId) → ℕ → (to : ObjId) → ℕ → Algorithm (Unit {0})
copy_element o k a n = do
  v ← element o k
  add_if a n v

-- so many elements from an index on become elements of a new array from another on, one a turn
abbrev pub copy : (from : ObjId) → (start : ℕ) → (to : ObjId) → (count first : ℕ) → Algorithm (Unit {0})
copy o start a count first = upward (λ k _. copy_element o (start + k) a (first + k)) count 0 tt

-- values become the elements of a new array from an index on, one a turn
abbrev pub add_in_turns : (array : ObjId) → (index : ℕ) → List Value → Algorithm (Unit {0})
add_in_turns array index [] = give tt
add_in_turns array index (v ∷ vs) = Step do
  _ ← add_index array index v
  add_in_turns array (index + 1) vs

-- a new array of these
abbrev pub array_in_turns : List Value → Algorithm Value
array_in_turns vs = do
  array ← new_array
  _ ← add_in_turns array 0 vs
  give_object array

-- a new array of this length (15.4.2.2)
abbrev pub array_of_length : Value → Algorithm ObjId
array_of_length n = do
  a ← new_array
  _ ← define_own_property a length_name (value_change n)
  give a
