-- What the functions of arrays that look, search, or call a function for each element do with the value that they
-- waited for (15.4.4.10, 15.4.4.14 to 15.4.4.22).
use Rattle.std.specs.Prelude.{false, is_some, not, pos, slice_get, slice_index_or, true, zero, ◌+◌, ◌-◌, Bool, List}
use Rattle.std.specs.Prelude.{None, Option, Some, ℕ, ℤ}
use Rattle.jl_num.specs.Bits.{uint32_of}
use Rattle.jl_value.specs.declared.object.ObjId.{ObjId}
use Rattle.jl_value.specs.declared.value.Value.{Value}
use Rattle.jl_value.specs.declared.value.Value.TheVariants as value
use Rattle.jl_conv.specs.Conversions.{truth_of}
use Rattle.jl_meaning.specs.Conversions.{integer_of, to_integer, to_number}
use Rattle.jl_meaning.specs.FunctionObjects.{whole}
use Rattle.jl_meaning.specs.Parts.{give, ◌>>=◌, Algorithm}
use Rattle.jl_meaning.specs.Relations.{give_truth}
use Rattle.jl_meaning.specs.builtins.Arguments.{give_object, need_function}
use Rattle.jl_meaning.specs.builtins.Array.{indices_up_to, integer_or, match_index, match_turn}
use Rattle.jl_meaning.specs.builtins.ArrayCallbacks as callbacks
use Rattle.jl_meaning.specs.builtins.ArrayCallbacks.{add_chosen, ask_turn, asked_if, choose, combine, ends_at}
use Rattle.jl_meaning.specs.builtins.ArrayCallbacks.{filter_turn, for_each_turn, give_combined, map_turn, reduce_turn}
use Rattle.jl_meaning.specs.builtins.Elements.{add_if, add_index, array_of_length, copy_element, index_or_none}
use Rattle.jl_meaning.specs.builtins.Elements.{relative_index, to_end}
use Rattle.jl_meaning.specs.builtins.Turns.{downward, first_downward, first_upward, or_next, upward}
use Rattle.jl_meaning.specs.forms.Literals.{new_array}
use Rattle.jl_progress.specs.Primitives.{number_of_primitive}
use Rattle.jl_progress.specs.declared.array_call.ArrayCallProgress.{ArrayCallProgress}
use Rattle.jl_progress.specs.declared.array_call.ArrayCallProgress.TheVariants as array_call
use Rattle.jl_progress.specs.declared.array_call.Direction.{Direction}
use Rattle.jl_progress.specs.declared.array_call.Direction.TheVariants as direction
use Rattle.jl_progress.specs.declared.array_call.LengthFor.{LengthFor}
use Rattle.jl_progress.specs.declared.array_call.LengthFor.TheVariants as length_for
use Rattle.jl_progress.specs.declared.array_call.Task.{Task}
use Rattle.jl_progress.specs.declared.array_call.Task.TheVariants as task
use Rattle.jl_progress.specs.declared.array_call.Walk.{Walk}
use Rattle.jl_progress.specs.declared.array_call.WalkFor.{WalkFor}
use Rattle.jl_progress.specs.declared.array_call.WalkFor.TheVariants as walk_for

abbrev pub walk_of : Walk → callbacks.Walk
walk_of w = record { object = w.object; length = w.length; function = w.function; this = w.this }

abbrev pub argument_of : List Value → (index : ℕ) → Value
argument_of args index = slice_index_or args index value.Undefined

-- where the first of all turns begins, and the turn that follows the one at an index
abbrev pub first_place : Direction → (length : ℕ) → ℕ
first_place direction.Up length = 0
first_place direction.Down length = length

abbrev pub next_place : Direction → (index : ℕ) → ℕ
next_place direction.Up k = k + 1
next_place direction.Down k = k

-- the turns of a search from a place on
abbrev pub found_from : Direction → ObjId → (length : ℕ) → (sought : Value) → (at : ℕ) → Algorithm (Option ℕ)
found_from direction.Up o length x at = first_upward (match_turn o x) (length - at) at
found_from direction.Down o length x at = first_downward (match_turn o x) at

abbrev pub search_from : Direction → ObjId → (length : ℕ) → (sought : Value) → (at : ℕ) → Algorithm Value
search_from d o length x at = do
  found ← found_from d o length x at
  give (index_or_none found)

-- a search goes on with the element at an index
abbrev pub search_with : Direction → ObjId → (length : ℕ) → (sought : Value) → (index : ℕ) → Option Value
    → Algorithm Value
search_with d o length x k v = do
  found ← or_next (found_from d o length x (next_place d k)) (match_index x k v)
  give (index_or_none found)

-- where a search begins that isn't told so (15.4.4.14, step 5; 15.4.4.15, step 5)
abbrev pub usual_from : Direction → (length : ℕ) → ℤ
usual_from direction.Up length = pos 0
usual_from direction.Down length = pos (length - 1)

-- where the first turn of a search begins (15.4.4.14, steps 6 to 8; 15.4.4.15, steps 6 and 7)
abbrev pub place_from : Direction → (from : ℤ) → (length : ℕ) → ℕ
place_from direction.Up from length = relative_index from length
place_from direction.Down from length = indices_up_to length from

abbrev pub search : Direction → ObjId → (length : ℕ) → (args : List Value) → Algorithm Value
search d o zero args = give (index_or_none None)
search d o length args = do
  from ← integer_or (usual_from d length) (slice_get args 1)
  search_from d o length (argument_of args 0) (place_from d from length)

-- the turns of `slice` from one on, and its array
abbrev pub copy_from : (from : ObjId) → (start : ℕ) → (array : ObjId) → (count at : ℕ) → Algorithm Value
copy_from o start a count at = do
  _ ← upward (λ k _. copy_element o (start + k) a (0 + k)) (count - at) at tt
  give_object a

abbrev pub slice_to : ObjId → (array : ObjId) → (length start : ℕ) → (end : Value) → Algorithm Value
slice_to o a length start end = do
  to ← to_end end length
  copy_from o start a (relative_index to length - start) 0

-- whether an element was found is what `some` gives, and the contrary is what `every` gives
abbrev pub any_truth : (wanted found : Bool) → Bool
any_truth true found = found
any_truth false found = not found

-- the turns of a task from a place on, and what it comes to
abbrev pub turns : Task → callbacks.Walk → (at : ℕ) → Algorithm Value
turns (task.Any wanted) w at = do
  found ← first_upward (ask_turn wanted w) (w.length - at) at
  give_truth (any_truth wanted (is_some found))
turns task.ForEach w at = do
  _ ← upward (for_each_turn w) (w.length - at) at tt
  give value.Undefined
turns (task.Map a) w at = do
  _ ← upward (map_turn w a) (w.length - at) at tt
  give_object a
turns (task.Filter a to) w at = do
  _ ← upward (filter_turn w a) (w.length - at) at to
  give_object a
turns (task.Reduce so_far direction.Up) w at = do
  last ← upward (reduce_turn w) (w.length - at) at so_far
  give_combined last
turns (task.Reduce so_far direction.Down) w at = do
  last ← downward (reduce_turn w) at so_far
  give_combined last

-- `every` and `some` go on with what the function gives for the element at an index
abbrev pub any_with : (wanted : Bool) → callbacks.Walk → (index : ℕ) → Option Value → Algorithm Value
any_with wanted w k answer = do
  found ← or_next (first_upward (ask_turn wanted w) (w.length - (k + 1)) (k + 1)) (ends_at wanted answer)
  give_truth (any_truth wanted (is_some found))

-- a task goes on with the element at an index
abbrev pub task_with : Task → callbacks.Walk → (index : ℕ) → Option Value → Algorithm Value
task_with (task.Any wanted) w k v = do
  answer ← asked_if w k v
  any_with wanted w k answer
task_with task.ForEach w k v = do
  _ ← asked_if w k v
  turns task.ForEach w (k + 1)
task_with (task.Map a) w k v = do
  answer ← asked_if w k v
  _ ← add_if a k answer
  turns (task.Map a) w (k + 1)
task_with (task.Filter a to) w k v = do
  next ← choose w a k to v
  turns (task.Filter a next) w (k + 1)
task_with (task.Reduce so_far d) w k v = do
  last ← combine w k so_far v
  turns (task.Reduce last d) w (next_place d k)

-- a task goes on with what the function gives for the element at an index
abbrev pub task_after : Task → callbacks.Walk → (index : ℕ) → (element answer : Value) → Algorithm Value
task_after (task.Any wanted) w k v answer = any_with wanted w k (Some answer)
task_after task.ForEach w k v answer = turns task.ForEach w (k + 1)
task_after (task.Map a) w k v answer = do
  _ ← add_index a k answer
  turns (task.Map a) w (k + 1)
task_after (task.Filter a to) w k v answer = do
  next ← add_chosen (truth_of answer) a to v
  turns (task.Filter a next) w (k + 1)
task_after (task.Reduce so_far d) w k v answer = turns (task.Reduce (Some answer) d) w (next_place d k)

-- what a walk begins with
abbrev pub begin_walk : WalkFor → callbacks.Walk → (args : List Value) → Algorithm Value
begin_walk (walk_for.Any wanted) w args = turns (task.Any wanted) w 0
begin_walk walk_for.ForEach w args = turns task.ForEach w 0
begin_walk walk_for.Map w args = do
  a ← array_of_length (whole w.length)
  turns (task.Map a) w 0
begin_walk walk_for.Filter w args = do
  a ← new_array
  turns (task.Filter a 0) w 0
begin_walk (walk_for.Reduce d) w args = turns (task.Reduce (slice_get args 1) d) w (first_place d w.length)

-- what follows when the length is known
abbrev pub with_length : LengthFor → ObjId → (args : List Value) → (length : ℕ) → Algorithm Value
with_length (length_for.Slice a) o args length = do
  start ← to_integer (argument_of args 0)
  slice_to o a length (relative_index start length) (argument_of args 1)
with_length (length_for.Search d) o args length = search d o length args
with_length (length_for.Walk purpose) o args length = do
  f ← need_function (argument_of args 0)
  begin_walk purpose (record { object = o; length = length; function = f; this = argument_of args 1 }) args

abbrev pub array_call_after : ArrayCallProgress → Value → Algorithm Value
array_call_after (array_call.Length o args purpose) v = do
  n ← to_number v
  with_length purpose o args (uint32_of n)
array_call_after (array_call.LengthPrimitive o args purpose) p = do
  n ← number_of_primitive p
  with_length purpose o args (uint32_of n)
array_call_after (array_call.SliceStart o a length end) p = do
  n ← number_of_primitive p
  slice_to o a length (relative_index (integer_of n) length) end
array_call_after (array_call.SliceEnd o a length start) p = do
  n ← number_of_primitive p
  copy_from o start a (relative_index (integer_of n) length - start) 0
array_call_after (array_call.CopyTurn o start a count at) _ = copy_from o start a count at
array_call_after (array_call.CopyElement o start a count k) v = do
  _ ← add_index a k v
  copy_from o start a count (k + 1)
array_call_after (array_call.SearchFrom o length x d) p = do
  n ← number_of_primitive p
  search_from d o length x (place_from d (integer_of n) length)
array_call_after (array_call.SearchTurn o length x d at) _ = search_from d o length x at
array_call_after (array_call.SearchElement o length x d k) v = search_with d o length x k (Some v)
array_call_after (array_call.Turn walk t at) _ = turns t (walk_of walk) at
array_call_after (array_call.Element walk t k) v = task_with t (walk_of walk) k (Some v)
array_call_after (array_call.Answer walk t k v) answer = task_after t (walk_of walk) k v answer

abbrev pub rank_array_call : ArrayCallProgress → ℕ
rank_array_call (array_call.Length o args purpose) = 70
rank_array_call (array_call.LengthPrimitive o args purpose) = 50
rank_array_call (array_call.SliceStart o a length end) = 30
rank_array_call (array_call.SliceEnd o a length start) = 12
rank_array_call (array_call.CopyTurn o start a count at) = 6
rank_array_call (array_call.CopyElement o start a count k) = 12
rank_array_call (array_call.SearchFrom o length x d) = 12
rank_array_call (array_call.SearchTurn o length x d at) = 6
rank_array_call (array_call.SearchElement o length x d k) = 12
rank_array_call (array_call.Turn walk t at) = 6
rank_array_call (array_call.Element walk t k) = 20
rank_array_call (array_call.Answer walk t k v) = 12
