-- The functions of arrays that change what they are called on (15.4.4.6 to 15.4.4.9, 15.4.4.11 to 15.4.4.13).
use Rattle.std.specs.Cmp.Lexicographic.{slice_cmp}
use Rattle.std.specs.Ordering.{is_lt, nat_cmp}
use Rattle.std.specs.Prelude.{[], drop, false, if◌then◌else◌, length, map, nat_lt, suc, true, zero, ◌++◌, ◌+◌, ◌-◌}
use Rattle.std.specs.Prelude.{◌/◌, ◌∷◌, Bool, List, None, Option, Some, ℕ}
use Rattle.jl_value.specs.declared.builtin.Builtin.TheVariants as builtin
use Rattle.jl_value.specs.declared.builtin_groups.ArrayBuiltin.TheVariants as array_builtin
use Rattle.jl_value.specs.declared.object.ObjId.{ObjId}
use Rattle.jl_value.specs.declared.value.Value.{Value}
use Rattle.jl_value.specs.declared.value.Value.TheVariants as value
use Rattle.jl_effects.specs.Effects.{Fail}
use Rattle.jl_meaning.specs.Conversions.{to_integer, to_object, to_string}
use Rattle.jl_meaning.specs.Parts.{give, look, ◌>>=◌, Algorithm, Call, Unsupported}
use Rattle.jl_meaning.specs.builtins.Arguments.{argument}
use Rattle.jl_meaning.specs.builtins.Elements.{clamp, copy, delete_index, element, get_index, get_length}
use Rattle.jl_meaning.specs.builtins.Elements.{give_length, has_index, move_element, put_all, put_index, put_length}
use Rattle.jl_meaning.specs.builtins.Elements.{relative_index}
use Rattle.jl_meaning.specs.builtins.Turns.{downward, upward}
use Rattle.jl_meaning.specs.forms.Literals.{new_array}

-- what an empty one gives, which is given its length anew (15.4.4.6, step 4, and 15.4.4.9, step 4)
abbrev pub give_nothing : ObjId → Algorithm Value
give_nothing o = do
  _ ← put_length o 0
  give value.Undefined

-- pop (15.4.4.6)
abbrev pub pop_last : ObjId → (length : ℕ) → Algorithm Value
pop_last o zero = give_nothing o
pop_last o (suc last) = do
  v ← get_index o last
  _ ← delete_index o last
  _ ← put_length o last
  give v

abbrev pub array_pop : Call → Algorithm Value
array_pop c = do
  o ← to_object c.this
  length ← get_length o
  pop_last o length

-- push (15.4.4.7)
abbrev pub array_push : Call → Algorithm Value
array_push c = do
  o ← to_object c.this
  length ← get_length o
  n ← put_all o length c.args
  give_length o n

-- two elements change places, of which each is there or isn't (15.4.4.8, steps 6.h to 6.k)
abbrev pub exchange : ObjId → (lower upper : ℕ) → (low high : Value) → (has_low has_high : Bool) → Algorithm (Unit {0})
exchange o lower upper low high true true = do
  _ ← put_index o lower high
  put_index o upper low
exchange o lower upper low high false true = do
  _ ← put_index o lower high
  delete_index o upper
exchange o lower upper low high true false = do
  _ ← delete_index o lower
  put_index o upper low
exchange o lower upper low high false false = give tt

abbrev pub reverse_turn : ObjId → (lower upper : ℕ) → Algorithm (Unit {0})
reverse_turn o lower upper = do
  low ← get_index o lower
  high ← get_index o upper
  store ← look
  exchange o lower upper low high (has_index store o lower) (has_index store o upper)

-- reverse (15.4.4.8)
abbrev pub array_reverse : Call → Algorithm Value
array_reverse c = do
  o ← to_object c.this
  length ← get_length o
  _ ← upward (λ k _. reverse_turn o k (length - k - 1)) (length / 2) 0 tt
  give (value.Obj o)

-- shift (15.4.4.9)
abbrev pub shift_first : ObjId → (length : ℕ) → Algorithm Value
shift_first o zero = give_nothing o
shift_first o (suc last) = do
  first ← get_index o 0
  _ ← upward (λ k _. move_element o k (k - 1)) last 1 tt
  _ ← delete_index o last
  _ ← put_length o last
  give first

abbrev pub array_shift : Call → Algorithm Value
array_shift c = do
  o ← to_object c.this
  length ← get_length o
  shift_first o length

-- a value with its string by which `sort` compares it; undefined has none
abbrev pub KeyedValue : Type 0
KeyedValue = Option (List ℕ) × Value

-- whether one comes before another in SortCompare (15.4.4.11): undefined comes last
abbrev pub comes_before : Option (List ℕ) → Option (List ℕ) → Bool
comes_before None y = false
comes_before (Some a) None = true
comes_before (Some a) (Some b) = is_lt (slice_cmp nat_cmp a b)

-- one more value before the values in order that don't come before it
abbrev pub insert_in_order : KeyedValue → List KeyedValue → List KeyedValue
insert_in_order x [] = x ∷ []
insert_in_order x (y ∷ l) = if comes_before y.0 x.0 then y ∷ insert_in_order x l else x ∷ y ∷ l

-- the values in order; those with equal strings stay in the order in which they stood
abbrev pub sort_by_keys : List KeyedValue → List KeyedValue
sort_by_keys [] = []
sort_by_keys (x ∷ l) = insert_in_order x (sort_by_keys l)

abbrev pub key_of : Value → Algorithm (Option (List ℕ))
key_of value.Undefined = give None
key_of v = do
  text ← to_string v
  give (Some text)

-- the element that has been read, with its string, after those before it
abbrev pub with_element : List KeyedValue → Option Value → Algorithm (List KeyedValue)
with_element read None = give read
with_element read (Some v) = do
  key ← key_of v
  give (read ++ (key, v) ∷ [])

abbrev pub read_turn : ObjId → ℕ → List KeyedValue → Algorithm (List KeyedValue)
read_turn o k read = do
  v ← element o k
  with_element read v

abbrev pub sort_plainly : Call → Algorithm Value
sort_plainly c = do
  o ← to_object c.this
  length ← get_length o
  read ← upward (read_turn o) length 0 []
  n ← put_all o 0 (map (λ (x : KeyedValue). x.1) (sort_by_keys read))
  _ ← upward (λ k _. delete_index o k) (length - n) n tt
  give (value.Obj o)

-- sort (15.4.4.11), without a function to compare by
abbrev pub sort_by : Value → Call → Algorithm Value
sort_by value.Undefined c = sort_plainly c
sort_by compare c = Fail (Unsupported (builtin.Array array_builtin.Sort))

abbrev pub array_sort : Call → Algorithm Value
array_sort c = sort_by (argument c 0) c

-- the elements after those that go are moved to make room for those that come (15.4.4.12, steps 12 and 13), where
-- `rest` is the length without those that go
abbrev pub make_room : ObjId → (start rest removed added : ℕ) → Algorithm (Unit {0})
make_room o start rest removed added =
    if nat_lt added removed then (do
      _ ← upward (λ k _. move_element o (k + removed) (k + added)) (rest - start) start tt
      downward (λ k _. delete_index o (rest + added + k)) (removed - added) tt)
    else (if nat_lt removed added
    then downward (λ k _. move_element o (start + k + removed) (start + k + added)) (rest - start) tt
    else give tt)

abbrev pub splice_at : ObjId → (gone : ObjId) → (length start removed : ℕ) → List Value → Algorithm Value
splice_at o a len start removed items = do
  _ ← copy o start a removed 0
  _ ← make_room o start (len - removed) removed (length items)
  _ ← put_all o start items
  _ ← put_length o (len - removed + length items)
  give (value.Obj a)

-- splice (15.4.4.12)
abbrev pub array_splice : Call → Algorithm Value
array_splice c = do
  o ← to_object c.this
  a ← new_array
  len ← get_length o
  start ← to_integer (argument c 0)
  count ← to_integer (argument c 1)
  splice_at o a len (relative_index start len) (clamp count (len - relative_index start len)) (drop 2 c.args)

-- unshift (15.4.4.13)
abbrev pub array_unshift : Call → Algorithm Value
array_unshift c = do
  o ← to_object c.this
  len ← get_length o
  _ ← downward (λ k _. move_element o k (k + length c.args)) len tt
  _ ← put_all o 0 c.args
  give_length o (len + length c.args)
