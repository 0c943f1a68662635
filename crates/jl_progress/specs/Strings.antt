-- What the builtins of strings do with the value that they waited for (15.5).
use Rattle.std.specs.Option.{option_map_or}
use Rattle.std.specs.Prelude.{[], drop, length, map, slice_range, take, ◌++◌, ◌∷◌, List}
use Rattle.std.specs.Prelude.{None, Option, ℕ, ℤ}
use Rattle.jl_num.specs.Bits.{uint16_of, uint32_of}
use Rattle.jl_num.specs.Number.{Number}
use Rattle.jl_text.specs.Search.{first_place, last_place}
use Rattle.jl_value.specs.declared.object.ObjId.{ObjId}
use Rattle.jl_value.specs.declared.value.Value.{Value}
use Rattle.jl_value.specs.declared.value.Value.TheVariants as value
use Rattle.jl_conv.specs.Conversions.{text_of_value}
use Rattle.jl_meaning.specs.Conversions.{integer_of, to_number}
use Rattle.jl_meaning.specs.Errors.{string_within}
use Rattle.jl_meaning.specs.FunctionObjects.{whole}
use Rattle.jl_meaning.specs.Parts.{give, ◌>>=◌, Algorithm}
use Rattle.jl_meaning.specs.builtins.Arguments.{give_object, give_string}
use Rattle.jl_meaning.specs.builtins.Elements.{add_in_turns, clamp, index_or_none, relative_index, to_end}
use Rattle.jl_meaning.specs.builtins.String.{between, concat_all, last_start, method_of_string, pieces, pieces_between}
use Rattle.jl_meaning.specs.builtins.String.{string_or_object, unit_at_position, units_from}
use Rattle.jl_progress.specs.Primitives.{number_of_primitive}
use Rattle.jl_progress.specs.declared.string.Cut.{Cut}
use Rattle.jl_progress.specs.declared.string.Cut.TheVariants as cut
use Rattle.jl_progress.specs.declared.string.Search.{Search}
use Rattle.jl_progress.specs.declared.string.Search.TheVariants as search
use Rattle.jl_progress.specs.declared.string.StringProgress.{StringProgress}
use Rattle.jl_progress.specs.declared.string.StringProgress.TheVariants as string
use Rattle.jl_progress.specs.declared.string.UnitForm.{UnitForm}
use Rattle.jl_progress.specs.declared.string.UnitForm.TheVariants as unit_form

-- a unit that was found, or else the empty string or NaN
abbrev pub unit_given : UnitForm → Option ℕ → Value
unit_given unit_form.Text unit = value.Text (option_map_or (λ u. u ∷ []) unit [])
unit_given unit_form.Code unit = option_map_or whole unit (value.Num None)

-- the place of a part, which is searched for from a position on
abbrev pub place_of_part : Search → (units part : List ℕ) → (position : Number) → Value
place_of_part search.First units part n = index_or_none (first_place units part (clamp (integer_of n) (length units)))
place_of_part search.Last units part n = index_or_none (last_place units part (last_start n (length units)))

-- the units from a start up to an end
abbrev pub units_cut : Cut → List ℕ → (start end : ℤ) → List ℕ
units_cut cut.Slice units start end =
    slice_range units (relative_index start (length units)) (relative_index end (length units))
units_cut cut.Substring units start end =
    between units (clamp start (length units)) (clamp end (length units))

-- an array is filled with as many pieces as the limit allows, and given
abbrev pub fill_with_pieces : (array : ObjId) → (limit : ℕ) → List (List ℕ) → Algorithm Value
fill_with_pieces array limit parts = do
  _ ← add_in_turns array 0 (map (λ part. value.Text part) (take limit parts))
  give_object array

-- what `split` does when it has the limit
abbrev pub split_up_to : List ℕ → (array : ObjId) → (separator : Value) → (limit : ℕ) → Algorithm Value
split_up_to units array separator limit = do
  parts ← pieces_between separator units
  fill_with_pieces array limit parts

abbrev pub string_after : StringProgress → Value → Algorithm Value
string_after (string.Given by_new) p = string_or_object by_new (text_of_value p)
string_after (string.CharCode units args from) p = do
  n ← number_of_primitive p
  all ← units_from (units ++ uint16_of n ∷ []) (drop from args)
  within ← string_within all
  give_string within
string_after (string.This method args) p = method_of_string method (text_of_value p) args
string_after (string.Position form units) p = do
  n ← number_of_primitive p
  give (unit_given form (unit_at_position units (integer_of n)))
string_after (string.Joined units args from) p = do
  more ← string_within (units ++ text_of_value p)
  all ← concat_all more (drop from args)
  give_string all
string_after (string.Part which units position) p = do
  n ← to_number position
  give (place_of_part which units (text_of_value p) n)
string_after (string.Place which units part) p = do
  n ← number_of_primitive p
  give (place_of_part which units part n)
string_after (string.Start which units end) p = do
  n ← number_of_primitive p
  z ← to_end end (length units)
  give_string (units_cut which units (integer_of n) z)
string_after (string.End which units start) p = do
  n ← number_of_primitive p
  give_string (units_cut which units (integer_of start) (integer_of n))
string_after (string.Limit units array separator) p = do
  n ← number_of_primitive p
  split_up_to units array separator (uint32_of n)
string_after (string.Separator units array limit) p = fill_with_pieces array limit (pieces (text_of_value p) units)

abbrev pub rank_string : StringProgress → ℕ
rank_string (string.Given by_new) = 6
rank_string (string.CharCode units args from) = 6
rank_string (string.This method args) = 60
rank_string (string.Position form units) = 6
rank_string (string.Joined units args from) = 6
rank_string (string.Part which units position) = 30
rank_string (string.Place which units part) = 6
rank_string (string.Start which units end) = 30
rank_string (string.End which units start) = 6
rank_string (string.Limit units array separator) = 30
rank_string (string.Separator units array limit) = 6
