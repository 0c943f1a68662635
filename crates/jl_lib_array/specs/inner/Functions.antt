-- How the functions of arrays begin that change or copy, and how `splice` makes room.
use Rattle.std.specs.Prelude.{codes, length, true, ◌+◌, ◌-◌, ◌∷◌, Bool, List}
use Rattle.jl_value.specs.declared.object.ObjId.{ObjId}
use Rattle.jl_value.specs.declared.value.Value.{Value}
use Rattle.jl_value.specs.declared.value.Value.TheVariants as value
use Rattle.jl_meaning.specs.Conversions.{to_object}
use Rattle.jl_meaning.specs.Getting.{get}
use Rattle.jl_meaning.specs.Parts.{◌>>=◌, Algorithm, Call}
use Rattle.jl_meaning.specs.builtins.Arguments.{give_object}
use Rattle.jl_meaning.specs.builtins.Array.{append_all, standard_to_string}
use Rattle.jl_meaning.specs.builtins.Elements.{delete_index, get_length, move_element}
use Rattle.jl_meaning.specs.builtins.Turns.{downward, upward}
use Rattle.jl_meaning.specs.forms.Literals.{new_array}
use Rattle.jl_progress.specs.Arrays.{array_after, with_length}
use Rattle.jl_progress.specs.declared.array.ArrayProgress.TheVariants as array
use Rattle.jl_progress.specs.declared.array.LengthFunction.{LengthFunction}
use Rattle.jl_progress.specs.declared.array.LengthFunction.TheVariants as for_length
use Rattle.jl_progress.specs.declared.array.Splicing.{Splicing}

-- how such a function begins that asks for the length of `this` first
abbrev pub change_call : LengthFunction → Call → Algorithm Value
change_call function c = do
  o ← to_object c.this
  length ← get_length o
  with_length function o c.args length

-- `toString`, `concat` and `splice` of an object
abbrev pub string_on : ObjId → Algorithm Value
string_on o = get (value.Obj o) (codes "join") >>= array_after (array.Join o)

-- what `toString` calls
abbrev pub callee_of : (callable : Bool) → (join : Value) → ObjId
callee_of true (value.Obj f) = f
callee_of _ f = standard_to_string

abbrev pub concat_on : ObjId → List Value → Algorithm Value
concat_on o args = do
  a ← new_array
  _ ← append_all a 0 (value.Obj o ∷ args)
  give_object a

abbrev pub splice_on : ObjId → List Value → Algorithm Value
splice_on o args = do
  a ← new_array
  length ← get_length o
  with_length (for_length.Splice a) o args length

-- the elements after those that go move down, and those after the new end are deleted (15.4.4.12, step 12)
abbrev pub close_gap : Splicing → Algorithm (Unit {0})
close_gap s = do
  _ ← upward (λ k _. move_element s.object (k + s.removed) (k + length s.items))
      (s.length - s.removed - s.start) s.start tt
  downward (λ k _. delete_index s.object (s.length - s.removed + length s.items + k)) (s.removed - length s.items) tt

-- the elements after those that go move up (step 13)
abbrev pub open_gap : Splicing → Algorithm (Unit {0})
open_gap s =
    downward (λ k _. move_element s.object (s.start + k + s.removed) (s.start + k + length s.items))
    (s.length - s.removed - s.start) tt
