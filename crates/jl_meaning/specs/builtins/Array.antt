-- Array (15.4): the constructor, and the functions of the prototype that only look at what they are called on
-- (15.4.4.2 to 15.4.4.5, 15.4.4.10, 15.4.4.14, 15.4.4.15).
use Rattle.std.specs.Prelude.{[], codes, false, if◌then◌else◌, length, min, negsuc, pos, slice_get, suc, true, zero}
use Rattle.std.specs.Prelude.{◌++◌, ◌+◌, ◌-◌, ◌∷◌, Bool, List, None, Option, Some, ℕ, ℤ}
use Rattle.jl_num.specs.Bits.{uint32_of}
use Rattle.jl_value.specs.BuiltinPlaces.{place_of_builtin}
use Rattle.jl_value.specs.declared.builtin.Builtin.TheVariants as builtin
use Rattle.jl_value.specs.declared.builtin_groups.ObjectBuiltin.TheVariants as object_builtin
use Rattle.jl_value.specs.Tests.{is_nothing}
use Rattle.jl_value.specs.declared.object.ObjId.{ObjId}
use Rattle.jl_value.specs.declared.value.Value.{Value}
use Rattle.jl_value.specs.declared.value.Value.TheVariants as value
use Rattle.jl_conv.specs.Comparisons.{strictly_equal}
use Rattle.jl_heap.specs.Define.{count_of, is_array, length_name}
use Rattle.jl_heap.specs.Objects.{object_at, Objects}
use Rattle.jl_effects.specs.Effects.{Step}
use Rattle.jl_meaning.specs.Conversions.{to_integer, to_object, to_string}
use Rattle.jl_meaning.specs.Defining.{length_within}
use Rattle.jl_meaning.specs.Errors.{string_within}
use Rattle.jl_meaning.specs.Getting.{get, is_callable}
use Rattle.jl_meaning.specs.Parts.{call, give, look, ◌>>=◌, Algorithm, Call}
use Rattle.jl_meaning.specs.Relations.{give_truth}
use Rattle.jl_meaning.specs.builtins.Arguments.{argument}
use Rattle.jl_meaning.specs.builtins.Elements.{add_index, array_of_length, copy, element, get_index, get_length}
use Rattle.jl_meaning.specs.builtins.Elements.{index_or_none, relative_index, to_end}
use Rattle.jl_meaning.specs.builtins.Turns.{first_downward, first_upward, upward}
use Rattle.jl_meaning.specs.forms.Literals.{new_array}

-- values become the elements of a new array from an index on, without turns (15.4.2.1)
abbrev pub add_all : (array : ObjId) → ℕ → List Value → Algorithm (Unit {0})
add_all a k [] = give tt
add_all a k (v ∷ vs) = do
  _ ← add_index a k v
  add_all a (k + 1) vs

-- new Array (item0, item1, ...) (15.4.2.1)
abbrev pub array_of_values : List Value → Algorithm Value
array_of_values vs = do
  a ← new_array
  _ ← add_all a 0 vs
  give (value.Obj a)

-- new Array (len) (15.4.2.2)
abbrev pub array_of_one : Value → Algorithm Value
array_of_one (value.Num n) = do
  length ← length_within (Some (pos (uint32_of n))) n
  a ← array_of_length length
  give (value.Obj a)
array_of_one v = array_of_values (v ∷ [])

abbrev pub array_by : List Value → Algorithm Value
array_by (v ∷ []) = array_of_one v
array_by vs = array_of_values vs

-- Array, which constructs by a call as well (15.4.1)
abbrev pub array_constructor : Call → Algorithm Value
array_constructor c = array_by c.args

abbrev pub is_array_value : Objects → Value → Bool
is_array_value heap (value.Obj id) = is_array (object_at heap id.0).class
is_array_value heap v = false

-- Array.isArray (15.4.3.2)
abbrev pub array_is_array : Call → Algorithm Value
array_is_array c = do
  store ← look
  give_truth (is_array_value store.heap (argument c 0))

-- the standard Object.prototype.toString
abbrev pub standard_to_string : ObjId
standard_to_string = place_of_builtin (builtin.Object object_builtin.ToString)

abbrev pub call_if : (callable : Bool) → (f : Value) → (this : ObjId) → Algorithm Value
call_if true (value.Obj f) o = call f (value.Obj o) []
call_if _ f o = call standard_to_string (value.Obj o) []

-- toString (15.4.4.2)
abbrev pub array_to_string : Call → Algorithm Value
array_to_string c = do
  o ← to_object c.this
  join ← get (value.Obj o) (codes "join")
  store ← look
  call_if (is_callable store.heap join) join o

abbrev pub append_array : (of_array : Bool) → (array : ObjId) → ℕ → Value → Algorithm ℕ
append_array true a n (value.Obj e) = do
  length ← get (value.Obj e) length_name
  _ ← copy e 0 a (count_of length) n
  give (n + count_of length)
append_array _ a n v = do
  _ ← add_index a n v
  give (n + 1)

abbrev pub append : (array : ObjId) → ℕ → Value → Algorithm ℕ
append a n v = do
  store ← look
  append_array (is_array_value store.heap v) a n v

abbrev pub append_all : (array : ObjId) → ℕ → List Value → Algorithm (Unit {0})
append_all a n [] = give tt
append_all a n (v ∷ vs) = Step do
  m ← append a n v
  append_all a m vs

-- concat (15.4.4.4)
abbrev pub array_concat : Call → Algorithm Value
array_concat c = do
  o ← to_object c.this
  a ← new_array
  _ ← append_all a 0 (value.Obj o ∷ c.args)
  give (value.Obj a)

-- the string of an element, which is empty for undefined and null (15.4.4.5, steps 8 and 10.c)
abbrev pub string_or_empty : Value → Algorithm (List ℕ)
string_or_empty v = if is_nothing v then give [] else to_string v

abbrev pub element_string : ObjId → ℕ → Algorithm (List ℕ)
element_string o k = do
  v ← get_index o k
  string_or_empty v

abbrev pub join_turn : ObjId → (separator : List ℕ) → ℕ → List ℕ → Algorithm (List ℕ)
join_turn o separator k line = do
  parted ← string_within (line ++ separator)
  next ← element_string o k
  string_within (parted ++ next)

abbrev pub join_elements : ObjId → (length : ℕ) → (separator : List ℕ) → Algorithm Value
join_elements o zero separator = give (value.Text [])
join_elements o (suc more) separator = do
  first ← element_string o 0
  line ← upward (join_turn o separator) more 1 first
  give (value.Text line)

abbrev pub separator_of : Value → Algorithm (List ℕ)
separator_of value.Undefined = give (codes ",")
separator_of v = to_string v

-- join (15.4.4.5)
abbrev pub array_join : Call → Algorithm Value
array_join c = do
  o ← to_object c.this
  length ← get_length o
  separator ← separator_of (argument c 0)
  join_elements o length separator

-- slice (15.4.4.10)
abbrev pub array_slice : Call → Algorithm Value
array_slice c = do
  o ← to_object c.this
  a ← new_array
  length ← get_length o
  start ← to_integer (argument c 0)
  end ← to_end (argument c 1) length
  _ ← copy o (relative_index start length) a (relative_index end length - relative_index start length) 0
  give (value.Obj a)

-- the index, if the element there is this value
abbrev pub match_index : Value → ℕ → Option Value → Option ℕ
match_index x k None = None
match_index x k (Some v) = if strictly_equal x v then Some k else None

abbrev pub match_turn : ObjId → Value → ℕ → Algorithm (Option ℕ)
match_turn o x k = do
  v ← element o k
  give (match_index x k v)

-- ToInteger of an argument, or another number where it isn't given (15.4.4.14, step 5; 15.4.4.15, step 5)
abbrev pub integer_or : ℤ → Option Value → Algorithm ℤ
integer_or z None = give z
integer_or z (Some v) = to_integer v

abbrev pub index_within : ObjId → (length : ℕ) → Call → Algorithm Value
index_within o zero c = give (index_or_none None)
index_within o length c = do
  from ← integer_or (pos 0) (slice_get c.args 1)
  found ← first_upward (match_turn o (argument c 0)) (length - relative_index from length) (relative_index from length)
  give (index_or_none found)

-- indexOf (15.4.4.14)
abbrev pub array_index_of : Call → Algorithm Value
array_index_of c = do
  o ← to_object c.this
  length ← get_length o
  index_within o length c

-- how many indices there are from 0 up to where a search begins that goes down (15.4.4.15, steps 6 and 7)
abbrev pub indices_up_to : (length : ℕ) → ℤ → ℕ
indices_up_to length (pos n) = min (n + 1) length
indices_up_to length (negsuc n) = length - n

abbrev pub last_index_within : ObjId → (length : ℕ) → Call → Algorithm Value
last_index_within o zero c = give (index_or_none None)
last_index_within o length c = do
  from ← integer_or (pos (length - 1)) (slice_get c.args 1)
  found ← first_downward (match_turn o (argument c 0)) (indices_up_to length from)
  give (index_or_none found)

-- lastIndexOf (15.4.4.15)
abbrev pub array_last_index_of : Call → Algorithm Value
array_last_index_of c = do
  o ← to_object c.this
  length ← get_length o
  last_index_within o length c
