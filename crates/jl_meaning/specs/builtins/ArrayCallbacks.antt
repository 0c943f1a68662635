-- The functions of arrays that call a function for each element (15.4.4.16 to 15.4.4.22).
use Rattle.std.specs.Prelude.{[], codes, false, if◌then◌else◌, is_some, not, slice_get, true, ◌+◌, ◌∷◌, Bool, None}
use Rattle.std.specs.Prelude.{Option, Some, ℕ}
use Rattle.jl_value.specs.declared.object.ObjId.{ObjId}
use Rattle.jl_value.specs.declared.value.Value.{Value}
use Rattle.jl_value.specs.declared.value.Value.TheVariants as value
use Rattle.jl_conv.specs.Conversions.{truth_of}
use Rattle.jl_meaning.specs.Conversions.{to_object}
use Rattle.jl_meaning.specs.Errors.{throw_type_error}
use Rattle.jl_meaning.specs.FunctionObjects.{whole}
use Rattle.jl_meaning.specs.Parts.{call, give, ◌>>=◌, Algorithm, Call}
use Rattle.jl_meaning.specs.Relations.{give_truth}
use Rattle.jl_meaning.specs.builtins.Arguments.{argument, need_function}
use Rattle.jl_meaning.specs.builtins.Elements.{add_if, add_index, array_of_length, element, get_length}
use Rattle.jl_meaning.specs.builtins.Turns.{downward, first_upward, upward}
use Rattle.jl_meaning.specs.forms.Literals.{new_array}

-- the object whose elements are gone through, its length as it was at first, the function, and its `this`
pub record Walk : Type 0 where
  pub object : ObjId
  pub length : ℕ
  pub function : ObjId
  pub this : Value

-- how each begins (15.4.4.16, steps 1 to 5, and so on)
abbrev pub walk : Call → Algorithm Walk
walk c = do
  o ← to_object c.this
  length ← get_length o
  f ← need_function (argument c 0)
  give (record { object = o; length = length; function = f; this = argument c 1 })

-- what the function gives for an element
abbrev pub called_with : Walk → ℕ → Value → Algorithm Value
called_with w k v = call w.function w.this (v ∷ whole k ∷ value.Obj w.object ∷ [])

-- the same, for the element at an index, if there is one
abbrev pub asked_if : Walk → ℕ → Option Value → Algorithm (Option Value)
asked_if w k None = give None
asked_if w k (Some v) = do
  answer ← called_with w k v
  give (Some answer)

abbrev pub answer_at : Walk → ℕ → Algorithm (Option Value)
answer_at w k = do
  v ← element w.object k
  asked_if w k v

-- an answer that is true, or one that is false, ends the turns
abbrev pub ends_at : (wanted : Bool) → Option Value → Option (Unit {0})
ends_at wanted None = None
ends_at wanted (Some v) = if (if wanted then truth_of v else not (truth_of v)) then Some tt else None

abbrev pub ask_turn : (wanted : Bool) → Walk → ℕ → Algorithm (Option (Unit {0}))
ask_turn wanted w k = do
  answer ← answer_at w k
  give (ends_at wanted answer)

-- whether an element is there for which the function gives what is so, or what isn't
abbrev pub any_element : (wanted : Bool) → Walk → Algorithm Bool
any_element wanted w = do
  found ← first_upward (ask_turn wanted w) w.length 0
  give (is_some found)

-- every (15.4.4.16)
abbrev pub array_every : Call → Algorithm Value
array_every c = do
  w ← walk c
  refuted ← any_element false w
  give_truth (not refuted)

-- some (15.4.4.17)
abbrev pub array_some : Call → Algorithm Value
array_some c = do
  w ← walk c
  found ← any_element true w
  give_truth found

abbrev pub for_each_turn : Walk → ℕ → Unit {0} → Algorithm (Unit {0})
for_each_turn w k _ = do
  _ ← answer_at w k
  give tt

-- forEach (15.4.4.18)
abbrev pub array_for_each : Call → Algorithm Value
array_for_each c = do
  w ← walk c
  _ ← upward (for_each_turn w) w.length 0 tt
  give value.Undefined

abbrev pub map_turn : Walk → (array : ObjId) → ℕ → Unit {0} → Algorithm (Unit {0})
map_turn w a k _ = do
  answer ← answer_at w k
  add_if a k answer

-- map (15.4.4.19)
abbrev pub array_map : Call → Algorithm Value
array_map c = do
  w ← walk c
  a ← array_of_length (whole w.length)
  _ ← upward (map_turn w a) w.length 0 tt
  give (value.Obj a)

-- an element that the function lets through is added at the next index of the new array
abbrev pub add_chosen : (chosen : Bool) → (array : ObjId) → (to : ℕ) → Value → Algorithm ℕ
add_chosen false a to v = give to
add_chosen true a to v = do
  _ ← add_index a to v
  give (to + 1)

abbrev pub choose : Walk → (array : ObjId) → ℕ → (to : ℕ) → Option Value → Algorithm ℕ
choose w a k to None = give to
choose w a k to (Some v) = do
  answer ← called_with w k v
  add_chosen (truth_of answer) a to v

abbrev pub filter_turn : Walk → (array : ObjId) → ℕ → (to : ℕ) → Algorithm ℕ
filter_turn w a k to = do
  v ← element w.object k
  choose w a k to v

-- filter (15.4.4.20)
abbrev pub array_filter : Call → Algorithm Value
array_filter c = do
  w ← walk c
  a ← new_array
  _ ← upward (filter_turn w a) w.length 0 0
  give (value.Obj a)

-- what there is so far, with an element; the first one is there without a call where no value was given to begin with
abbrev pub combine : Walk → ℕ → Option Value → Option Value → Algorithm (Option Value)
combine w k so_far None = give so_far
combine w k None (Some v) = give (Some v)
combine w k (Some so_far) (Some v) = do
  next ← call w.function value.Undefined (so_far ∷ v ∷ whole k ∷ value.Obj w.object ∷ [])
  give (Some next)

abbrev pub reduce_turn : Walk → ℕ → Option Value → Algorithm (Option Value)
reduce_turn w k so_far = do
  v ← element w.object k
  combine w k so_far v

-- no value was given to begin with, and no element was there
abbrev pub give_combined : Option Value → Algorithm Value
give_combined None = throw_type_error (codes "empty array")
give_combined (Some v) = give v

-- reduce (15.4.4.21): its two loops are one here, as the turns until the first element call nothing
abbrev pub array_reduce : Call → Algorithm Value
array_reduce c = do
  w ← walk c
  last ← upward (reduce_turn w) w.length 0 (slice_get c.args 1)
  give_combined last

-- reduceRight (15.4.4.22)
abbrev pub array_reduce_right : Call → Algorithm Value
array_reduce_right c = do
  w ← walk c
  last ← downward (reduce_turn w) w.length (slice_get c.args 1)
  give_combined last
