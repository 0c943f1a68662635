-- String (15.5): the constructor, `fromCharCode`, and the functions of the prototype.
use Rattle.std.specs.List.{list_any, starts_with}
use Rattle.std.specs.Option.{option_map_or}
use Rattle.std.specs.Prelude.{[], false, if◌then◌else◌, length, map, max, min, nat_eq, nat_le, nat_lt, negsuc, pos}
use Rattle.std.specs.Prelude.{slice_get, slice_range, suc, take, true, zero, ◌&&◌, ◌++◌, ◌+◌, ◌-◌, ◌∷◌, Bool, List}
use Rattle.std.specs.Prelude.{None, Option, Some, ℕ, ℤ}
use Rattle.jl_num.specs.Bits.{uint16_of}
use Rattle.jl_num.specs.Number.{Number}
use Rattle.jl_text.specs.Search.{first_place, last_place}
use Rattle.jl_value.specs.declared.builtin.Builtin.TheVariants as builtin
use Rattle.jl_value.specs.declared.builtin_groups.StringBuiltin.{StringBuiltin}
use Rattle.jl_value.specs.declared.builtin_groups.StringBuiltin.TheVariants as string_builtin
use Rattle.jl_value.specs.declared.builtin_groups.StringMethod.{StringMethod}
use Rattle.jl_value.specs.declared.builtin_groups.StringMethod.TheVariants as string_method
use Rattle.jl_value.specs.declared.object.Class.{Class}
use Rattle.jl_value.specs.declared.object.Class.TheVariants as class
use Rattle.jl_value.specs.declared.value.Value.{Value}
use Rattle.jl_value.specs.declared.value.Value.TheVariants as value
use Rattle.jl_conv.specs.Numerals.{trim}
use Rattle.jl_heap.specs.Objects.{object_at, Objects}
use Rattle.jl_heap.specs.declared.inner.Inner.{Inner}
use Rattle.jl_heap.specs.declared.inner.Inner.TheVariants as inner
use Rattle.jl_effects.specs.Effects.{Fail, Step}
use Rattle.jl_meaning.specs.Conversions.{new_string_object, to_integer, to_number, to_string, to_uint32}
use Rattle.jl_meaning.specs.Errors.{string_within}
use Rattle.jl_meaning.specs.FunctionObjects.{whole}
use Rattle.jl_meaning.specs.Parts.{give, look, ◌>>=◌, Algorithm, Call, Unsupported}
use Rattle.jl_meaning.specs.builtins.Arguments.{argument_at, give_object, give_string, need_receiver, string_of_this}
use Rattle.jl_meaning.specs.builtins.Arguments.{unless_undefined}
use Rattle.jl_meaning.specs.builtins.Elements.{add_in_turns, clamp, index_or_none, relative_index, to_end}
use Rattle.jl_meaning.specs.forms.Literals.{new_array}

-- the string of an argument, where there is one
abbrev pub string_given : List Value → Algorithm (List ℕ)
string_given [] = give []
string_given (v ∷ vs) = to_string v

abbrev pub string_or_object : (by_new : Bool) → List ℕ → Algorithm Value
string_or_object false units = give_string units
string_or_object true units = do
  id ← new_string_object units
  give_object id

-- String(value) and new String(value) (15.5.1.1, 15.5.2.1)
abbrev pub string_constructor : Call → Algorithm Value
string_constructor c = do
  units ← string_given c.args
  string_or_object c.by_new units

-- the units of these numbers after those so far, one turn for each
abbrev pub units_from : (so_far : List ℕ) → List Value → Algorithm (List ℕ)
units_from so_far [] = give so_far
units_from so_far (v ∷ vs) = Step do
  n ← to_number v
  units_from (so_far ++ uint16_of n ∷ []) vs

-- String.fromCharCode(char0, ..) (15.5.3.2)
abbrev pub string_from_char_code : Call → Algorithm Value
string_from_char_code c = do
  units ← units_from [] c.args
  within ← string_within units
  give_string within

-- the string that a String object stands for
abbrev pub string_inside : Class → Inner → Option (List ℕ)
string_inside class.String (inner.Wrapped (value.Text units)) = Some units
string_inside _ i = None

abbrev pub string_of_receiver : Objects → Value → Option (List ℕ)
string_of_receiver heap (value.Text units) = Some units
string_of_receiver heap (value.Obj id) = string_inside (object_at heap id.0).class (object_at heap id.0).inner
string_of_receiver heap v = None

-- String.prototype.toString() and valueOf() (15.5.4.2, 15.5.4.3)
abbrev pub string_value : Call → Algorithm Value
string_value c = do
  store ← look
  units ← need_receiver (string_of_receiver store.heap c.this)
  give_string units

-- the unit at a position, if there is one
abbrev pub unit_at_position : List ℕ → ℤ → Option ℕ
unit_at_position units (pos n) = slice_get units n
unit_at_position units (negsuc n) = None

-- String.prototype.charAt(pos) (15.5.4.4), of `this` as a string and the arguments, as all that follow
abbrev pub string_char_at : List ℕ → List Value → Algorithm Value
string_char_at units args = do
  position ← to_integer (argument_at args 0)
  give_string (option_map_or (λ u. u ∷ []) (unit_at_position units position) [])

-- String.prototype.charCodeAt(pos) (15.5.4.5)
abbrev pub string_char_code_at : List ℕ → List Value → Algorithm Value
string_char_code_at units args = do
  position ← to_integer (argument_at args 0)
  give (option_map_or whole (unit_at_position units position) (value.Num None))

-- these as strings after what is there so far, one turn for each (15.5.4.6, step 5)
abbrev pub concat_all : (so_far : List ℕ) → List Value → Algorithm (List ℕ)
concat_all so_far [] = give so_far
concat_all so_far (v ∷ vs) = Step do
  units ← to_string v
  more ← string_within (so_far ++ units)
  concat_all more vs

-- String.prototype.concat(string1, ..) (15.5.4.6)
abbrev pub string_concat : List ℕ → List Value → Algorithm Value
string_concat units args = do
  all ← concat_all units args
  give_string all

-- String.prototype.indexOf(searchString, position) (15.5.4.7)
abbrev pub string_index_of : List ℕ → List Value → Algorithm Value
string_index_of units args = do
  part ← to_string (argument_at args 0)
  position ← to_integer (argument_at args 1)
  give (index_or_none (first_place units part (clamp position (length units))))

-- where a search for the last place begins: NaN stands for an infinity (15.5.4.8, steps 5 to 7)
abbrev pub last_start : Number → (length : ℕ) → ℕ
last_start None length = length
last_start (Some z) length = clamp z length

-- String.prototype.lastIndexOf(searchString, position) (15.5.4.8)
abbrev pub string_last_index_of : List ℕ → List Value → Algorithm Value
string_last_index_of units args = do
  part ← to_string (argument_at args 0)
  n ← to_number (argument_at args 1)
  give (index_or_none (last_place units part (last_start n (length units))))

-- String.prototype.slice(start, end) (15.5.4.13)
abbrev pub string_slice : List ℕ → List Value → Algorithm Value
string_slice units args = do
  start ← to_integer (argument_at args 0)
  end ← to_end (argument_at args 1) (length units)
  give_string (slice_range units (relative_index start (length units)) (relative_index end (length units)))

-- the units from the smaller of two places up to the greater
abbrev pub between : List ℕ → (a b : ℕ) → List ℕ
between units a b = slice_range units (min a b) (max a b)

-- String.prototype.substring(start, end) (15.5.4.15)
abbrev pub string_substring : List ℕ → List Value → Algorithm Value
string_substring units args = do
  start ← to_integer (argument_at args 0)
  end ← to_end (argument_at args 1) (length units)
  give_string (between units (clamp start (length units)) (clamp end (length units)))

-- the pieces between the places of a separator that isn't empty (15.5.4.14, steps 12 to 14): `piece` has the units
-- since the last place, and `left` units of a place are still to be passed
abbrev pub pieces_from : (separator : List ℕ) → (left : ℕ) → (piece : List ℕ) → List ℕ → List (List ℕ)
pieces_from separator left piece [] = piece ∷ []
pieces_from separator (suc left) piece (u ∷ us) = pieces_from separator left piece us
pieces_from separator zero piece (u ∷ us) =
    if starts_with nat_eq (u ∷ us) separator then piece ∷ pieces_from separator (length separator - 1) [] us
    else pieces_from separator zero (piece ++ u ∷ []) us

-- an empty separator stands between any two units
abbrev pub pieces : (separator units : List ℕ) → List (List ℕ)
pieces [] units = map (λ u. u ∷ []) units
pieces (u ∷ us) units = pieces_from (u ∷ us) 0 [] units

-- the pieces of a string, which is the one piece where the separator is undefined (step 10)
abbrev pub pieces_between : Value → List ℕ → Algorithm (List (List ℕ))
pieces_between v units = unless_undefined (units ∷ []) (λ v. do
  separator ← to_string v
  give (pieces separator units)) v

-- String.prototype.split(separator, limit) (15.5.4.14), one turn for each piece
abbrev pub string_split : List ℕ → List Value → Algorithm Value
string_split units args = do
  array ← new_array
  limit ← unless_undefined 4294967295 to_uint32 (argument_at args 1)
  parts ← pieces_between (argument_at args 0) units
  _ ← add_in_turns array 0 (map (λ part. value.Text part) (take limit parts))
  give_object array

abbrev pub is_past_ascii : ℕ → Bool
is_past_ascii u = nat_lt 127 u

-- each unit in the other case, where all are in ASCII
abbrev pub in_case : StringMethod → (ℕ → ℕ) → List ℕ → Algorithm Value
in_case which f units =
    if list_any is_past_ascii units then Fail (Unsupported (builtin.StringMethod which)) else give_string (map f units)

abbrev pub lower : ℕ → ℕ
lower u = if nat_le 65 u && nat_le u 90 then u + 32 else u

abbrev pub upper : ℕ → ℕ
upper u = if nat_le 97 u && nat_le u 122 then u - 32 else u

-- String.prototype.toLowerCase() (15.5.4.16)
abbrev pub string_to_lower_case : List ℕ → Algorithm Value
string_to_lower_case units = in_case string_method.ToLowerCase lower units

-- String.prototype.toUpperCase() (15.5.4.18)
abbrev pub string_to_upper_case : List ℕ → Algorithm Value
string_to_upper_case units = in_case string_method.ToUpperCase upper units

-- String.prototype.trim() (15.5.4.20)
abbrev pub string_trim : List ℕ → Algorithm Value
string_trim units = give_string (trim units)

-- what a method does with `this` as a string, and with its arguments
abbrev pub method_of_string : StringMethod → List ℕ → List Value → Algorithm Value
method_of_string string_method.CharAt units args = string_char_at units args
method_of_string string_method.CharCodeAt units args = string_char_code_at units args
method_of_string string_method.Concat units args = string_concat units args
method_of_string string_method.IndexOf units args = string_index_of units args
method_of_string string_method.LastIndexOf units args = string_last_index_of units args
method_of_string string_method.Slice units args = string_slice units args
method_of_string string_method.Split units args = string_split units args
method_of_string string_method.Substring units args = string_substring units args
method_of_string string_method.ToLowerCase units args = string_to_lower_case units
method_of_string string_method.ToUpperCase units args = string_to_upper_case units
method_of_string string_method.Trim units args = string_trim units

-- what a call of a method does, which begins with `this` as a string
abbrev pub string_method_algorithm : StringMethod → Call → Algorithm Value
string_method_algorithm method c = do
  units ← string_of_this c
  method_of_string method units c.args

-- what a call of each of the others does
abbrev pub string_algorithm : StringBuiltin → Call → Algorithm Value
string_algorithm string_builtin.Constructor c = string_constructor c
string_algorithm string_builtin.FromCharCode c = string_from_char_code c
string_algorithm string_builtin.ToString c = string_value c
string_algorithm string_builtin.ValueOf c = string_value c
