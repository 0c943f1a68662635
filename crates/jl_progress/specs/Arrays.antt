-- What the functions of arrays that change or copy do with the value that they waited for (15.4.4.2 to 15.4.4.13).
use Rattle.std.specs.Prelude.{[], drop, length, map, slice_index_or, ◌++◌, ◌+◌, ◌-◌, ◌/◌, ◌∷◌, List, Option, Some, ℕ}
use Rattle.jl_num.specs.Bits.{uint32_of}
use Rattle.jl_value.specs.declared.object.ObjId.{ObjId}
use Rattle.jl_value.specs.declared.value.Value.{Value}
use Rattle.jl_value.specs.declared.value.Value.TheVariants as value
use Rattle.jl_conv.specs.Conversions.{text_of_value}
use Rattle.jl_heap.specs.Define.{count_of}
use Rattle.jl_meaning.specs.Conversions.{integer_of, to_integer, to_uint32}
use Rattle.jl_meaning.specs.Errors.{string_within}
use Rattle.jl_meaning.specs.Getting.{is_callable}
use Rattle.jl_meaning.specs.Parts.{give, look, ◌>>=◌, Algorithm}
use Rattle.jl_meaning.specs.builtins.Arguments.{give_object, give_string}
use Rattle.jl_meaning.specs.builtins.Array.{append_all, call_if, join_elements, join_turn, separator_of}
use Rattle.jl_meaning.specs.builtins.Array.{string_or_empty}
use Rattle.jl_meaning.specs.builtins.ArrayChanges.{exchange, make_room, pop_last, read_turn, reverse_turn, shift_first}
use Rattle.jl_meaning.specs.builtins.ArrayChanges.{sort_by_keys, splice_at, with_element, KeyedValue}
use Rattle.jl_meaning.specs.builtins.Elements.{add_index, clamp, copy, copy_element, delete_index, get_index}
use Rattle.jl_meaning.specs.builtins.Elements.{give_length, has_index, move_element, put_all, put_index, put_length}
use Rattle.jl_meaning.specs.builtins.Elements.{put_or_delete, relative_index}
use Rattle.jl_meaning.specs.builtins.Turns.{downward, upward}
use Rattle.jl_progress.specs.Primitives.{number_of_primitive}
use Rattle.jl_progress.specs.declared.array.AfterCopying.{AfterCopying}
use Rattle.jl_progress.specs.declared.array.AfterCopying.TheVariants as copied
use Rattle.jl_progress.specs.declared.array.AfterMoving.{AfterMoving}
use Rattle.jl_progress.specs.declared.array.AfterMoving.TheVariants as moved
use Rattle.jl_progress.specs.declared.array.AfterPutting.{AfterPutting}
use Rattle.jl_progress.specs.declared.array.AfterPutting.TheVariants as put
use Rattle.jl_progress.specs.declared.array.ArrayProgress.{ArrayProgress}
use Rattle.jl_progress.specs.declared.array.ArrayProgress.TheVariants as array
use Rattle.jl_progress.specs.declared.array.Copying.{Copying}
use Rattle.jl_progress.specs.declared.array.Joining.{Joining}
use Rattle.jl_progress.specs.declared.array.LengthFunction.{LengthFunction}
use Rattle.jl_progress.specs.declared.array.LengthFunction.TheVariants as for_length
use Rattle.jl_progress.specs.declared.array.Moving.{Moving}
use Rattle.jl_progress.specs.declared.array.Reading.{Reading}
use Rattle.jl_progress.specs.declared.array.Reversing.{Reversing}
use Rattle.jl_progress.specs.declared.array.Splicing.{Splicing}

-- the elements that are left to copy
abbrev pub copy_others : Copying → (left k : ℕ) → Algorithm (Unit {0})
copy_others c left k = upward (λ k _. copy_element c.object (c.start + k) c.array (c.first + k)) left k tt

-- the elements that are left to move, up and down
abbrev pub move_up : Moving → (left k : ℕ) → Algorithm (Unit {0})
move_up m left k = upward (λ k _. move_element m.object (k + m.from) (k + m.to)) left k tt

abbrev pub move_down : Moving → (left : ℕ) → Algorithm (Unit {0})
move_down m left = downward (λ k _. move_element m.object (m.from + k) (m.to + k)) left tt

-- the values that are left to put, and what follows
abbrev pub after_putting : ObjId → AfterPutting → (index : ℕ) → Algorithm Value
after_putting o put.Push n = give_length o n
after_putting o (put.Unshift length) n = give_length o length
after_putting o (put.Splice array length) n = do
  _ ← put_length o length
  give_object array
after_putting o (put.Sort length) n = do
  _ ← upward (λ k _. delete_index o k) (length - n) n tt
  give_object o

abbrev pub put_others : ObjId → (index : ℕ) → List Value → AfterPutting → Algorithm Value
put_others o index values next = do
  n ← put_all o index values
  after_putting o next n

-- splice, when the elements that go have been copied (15.4.4.12, steps 12 to 17)
abbrev pub length_spliced : Splicing → ℕ
length_spliced s = s.length - s.removed + length s.items

abbrev pub put_items : Splicing → Algorithm Value
put_items s = put_others s.object s.start s.items (put.Splice s.array (length_spliced s))

abbrev pub delete_end : Splicing → (left : ℕ) → Algorithm Value
delete_end s left = do
  _ ← downward (λ k _. delete_index s.object (length_spliced s + k)) left tt
  put_items s

abbrev pub splice_others : Splicing → Algorithm Value
splice_others s = do
  _ ← make_room s.object s.start (s.length - s.removed) s.removed (length s.items)
  put_items s

-- the last element is deleted, and the length without it is put
abbrev pub without_last : ObjId → (last : ℕ) → (gives : Value) → Algorithm Value
without_last o last v = do
  _ ← delete_index o last
  _ ← put_length o last
  give v

-- what follows when elements have been copied, and moved
abbrev pub after_copying : ObjId → AfterCopying → Algorithm Value
after_copying array (copied.Concat next items from) = do
  _ ← append_all array next (drop from items)
  give_object array
after_copying array (copied.Splice s) = splice_others s

abbrev pub after_moving : ObjId → AfterMoving → Algorithm Value
after_moving o (moved.Shift first last) = without_last o last first
after_moving o (moved.Delete s) = delete_end s (s.removed - length s.items)
after_moving o (moved.Put s) = put_items s
after_moving o (moved.Unshift args length) = put_others o 0 args (put.Unshift length)

-- the elements that are left to join; the line is within the length of a string
abbrev pub join_others : Joining → (line : List ℕ) → Algorithm Value
join_others j line = do
  joined ← upward (join_turn j.object j.separator) j.left j.k line
  units ← string_within joined
  give_string units

abbrev pub join_first : Joining → (first : List ℕ) → Algorithm Value
join_first j first = do
  line ← upward (join_turn j.object j.separator) j.left j.k first
  give_string line

abbrev pub join_next : Joining → (line next : List ℕ) → Algorithm Value
join_next j line next = do
  longer ← string_within (line ++ next)
  join_others j longer

-- the turns that are left of a reversal
abbrev pub reverse_others : Reversing → (left lower : ℕ) → Algorithm Value
reverse_others r left lower = do
  _ ← upward (λ k _. reverse_turn r.object k (r.length - k - 1)) left lower tt
  give_object r.object

abbrev pub upper_of : Reversing → ℕ
upper_of r = r.length - r.lower - 1

-- the elements that are left to read; they are sorted, put, and the holes come last
abbrev pub sort_others : Reading → List KeyedValue → Algorithm Value
sort_others r so_far = do
  read ← upward (read_turn r.object) r.left r.k so_far
  put_others r.object 0 (map (λ (x : KeyedValue). x.1) (sort_by_keys read)) (put.Sort r.length)

-- splice, from its second argument on
abbrev pub splice_from : ObjId → (array : ObjId) → (length start : ℕ) → (args : List Value) → Algorithm Value
splice_from o array length start args = do
  count ← to_integer (slice_index_or args 1 value.Undefined)
  splice_at o array length start (clamp count (length - start)) (drop 2 args)

-- what follows the length
abbrev pub with_length : LengthFunction → ObjId → (args : List Value) → (length : ℕ) → Algorithm Value
with_length for_length.Join o args length = do
  separator ← separator_of (slice_index_or args 0 value.Undefined)
  join_elements o length separator
with_length for_length.Pop o args length = pop_last o length
with_length for_length.Push o args length = put_others o length args put.Push
with_length for_length.Reverse o args length = do
  _ ← upward (λ k _. reverse_turn o k (length - k - 1)) (length / 2) 0 tt
  give_object o
with_length for_length.Shift o args length = shift_first o length
with_length for_length.Sort o args length = do
  read ← upward (read_turn o) length 0 []
  put_others o 0 (map (λ (x : KeyedValue). x.1) (sort_by_keys read)) (put.Sort length)
with_length (for_length.Splice array) o args length = do
  start ← to_integer (slice_index_or args 0 value.Undefined)
  splice_from o array length (relative_index start length) args
with_length for_length.Unshift o args len = do
  _ ← downward (λ k _. move_element o k (k + length args)) len tt
  put_others o 0 args (put.Unshift (len + length args))

abbrev pub array_after : ArrayProgress → Value → Algorithm Value
array_after (array.Join object) join = do
  store ← look
  call_if (is_callable store.heap join) join object
array_after (array.Length function object args) v = do
  length ← to_uint32 v
  with_length function object args length
array_after (array.LengthPrimitive function object args) p = do
  n ← number_of_primitive p
  with_length function object args (uint32_of n)
array_after (array.ConcatItem a next items from) _ = after_copying a (copied.Concat next items from)
array_after (array.ConcatLength a next item items from) v = do
  _ ← copy item 0 a (count_of v) next
  after_copying a (copied.Concat (next + count_of v) items from)
array_after (array.CopyTurn c next) _ = do
  _ ← copy_others c c.left c.k
  after_copying c.array next
array_after (array.CopyElement c next) v = do
  _ ← add_index c.array (c.first + c.k) v
  _ ← copy_others c c.left (c.k + 1)
  after_copying c.array next
array_after (array.JoinSeparator object length) p = join_elements object length (text_of_value p)
array_after (array.JoinFirst j) v = do
  first ← string_or_empty v
  join_first j first
array_after (array.JoinFirstPrimitive j) p = join_first j (text_of_value p)
array_after (array.JoinTurn j line) _ = join_others j line
array_after (array.JoinElement j line) v = do
  next ← string_or_empty v
  join_next j line next
array_after (array.JoinElementPrimitive j line) p = join_next j line (text_of_value p)
array_after (array.PopElement object last) v = without_last object last v
array_after (array.PutTurn object index values from next) _ = put_others object index (drop from values) next
array_after (array.ReverseTurn r) _ = reverse_others r r.left r.lower
array_after (array.ReverseLower r) low = do
  high ← get_index r.object (upper_of r)
  store ← look
  _ ← exchange r.object r.lower (upper_of r) low high (has_index store r.object r.lower)
      (has_index store r.object (upper_of r))
  reverse_others r r.left (r.lower + 1)
array_after (array.ReverseUpper r low) high = do
  store ← look
  _ ← exchange r.object r.lower (upper_of r) low high (has_index store r.object r.lower)
      (has_index store r.object (upper_of r))
  reverse_others r r.left (r.lower + 1)
array_after (array.ReverseExchange r low) _ = do
  _ ← put_or_delete r.object (upper_of r) low
  reverse_others r r.left (r.lower + 1)
array_after (array.ShiftFirst object last) first = do
  _ ← upward (λ k _. move_element object k (k - 1)) last 1 tt
  without_last object last first
array_after (array.MoveUp m k next) _ = do
  _ ← move_up m m.left k
  after_moving m.object next
array_after (array.MoveUpElement m k next) v = do
  _ ← put_index m.object (k + m.to) v
  _ ← move_up m m.left (k + 1)
  after_moving m.object next
array_after (array.MoveDown m next) _ = do
  _ ← move_down m m.left
  after_moving m.object next
array_after (array.MoveDownElement m next) v = do
  _ ← put_index m.object (m.to + m.left) v
  _ ← move_down m m.left
  after_moving m.object next
array_after (array.SortTurn r read) _ = sort_others r read
array_after (array.SortElement r read) v = do
  longer ← with_element read (Some v)
  sort_others r longer
array_after (array.SortPrimitive r read element) p = sort_others r (read ++ (Some (text_of_value p), element) ∷ [])
array_after (array.DeleteUp object index left) _ = do
  _ ← upward (λ k _. delete_index object k) left index tt
  give_object object
array_after (array.SpliceStart object a length args) p = do
  n ← number_of_primitive p
  splice_from object a length (relative_index (integer_of n) length) args
array_after (array.SpliceCount object a length start args) p = do
  n ← number_of_primitive p
  splice_at object a length start (clamp (integer_of n) (length - start)) (drop 2 args)
array_after (array.DeleteDown s left) _ = delete_end s left

abbrev pub rank_array : ArrayProgress → ℕ
rank_array (array.Join object) = 6
rank_array (array.Length function object args) = 160
rank_array (array.LengthPrimitive function object args) = 142
rank_array (array.ConcatItem a next items from) = 6
rank_array (array.ConcatLength a next item items from) = 90
rank_array (array.CopyTurn c next) = 80
rank_array (array.CopyElement c next) = 90
rank_array (array.JoinSeparator object length) = 40
rank_array (array.JoinFirst j) = 30
rank_array (array.JoinFirstPrimitive j) = 10
rank_array (array.JoinTurn j line) = 6
rank_array (array.JoinElement j line) = 30
rank_array (array.JoinElementPrimitive j line) = 10
rank_array (array.PopElement object last) = 50
rank_array (array.PutTurn object index values from next) = 50
rank_array (array.ReverseTurn r) = 6
rank_array (array.ReverseLower r) = 110
rank_array (array.ReverseUpper r low) = 100
rank_array (array.ReverseExchange r low) = 50
rank_array (array.ShiftFirst object last) = 80
rank_array (array.MoveUp m k next) = 70
rank_array (array.MoveUpElement m k next) = 120
rank_array (array.MoveDown m next) = 70
rank_array (array.MoveDownElement m next) = 120
rank_array (array.SortTurn r read) = 60
rank_array (array.SortElement r read) = 100
rank_array (array.SortPrimitive r read element) = 80
rank_array (array.DeleteUp object index left) = 6
rank_array (array.SpliceStart object a length args) = 120
rank_array (array.SpliceCount object a length start args) = 90
rank_array (array.DeleteDown s left) = 60
