-- Methods of strings by what they have in common: each of two begins alike.
use Rattle.std.specs.Prelude.{length, List, ℕ}
use Rattle.jl_value.specs.declared.value.Value.{Value}
use Rattle.jl_meaning.specs.Conversions.{to_integer, to_number, to_string}
use Rattle.jl_meaning.specs.Parts.{give, ◌>>=◌, Algorithm}
use Rattle.jl_meaning.specs.builtins.Arguments.{argument_at, give_string}
use Rattle.jl_meaning.specs.builtins.Elements.{to_end}
use Rattle.jl_meaning.specs.builtins.String.{unit_at_position}
use Rattle.jl_progress.specs.Strings.{place_of_part, unit_given, units_cut}
use Rattle.jl_progress.specs.declared.string.Cut.{Cut}
use Rattle.jl_progress.specs.declared.string.Search.{Search}
use Rattle.jl_progress.specs.declared.string.UnitForm.{UnitForm}

-- `charAt` and `charCodeAt` (15.5.4.4, 15.5.4.5)
abbrev pub unit_of_string : UnitForm → List ℕ → List Value → Algorithm Value
unit_of_string form units args = do
  position ← to_integer (argument_at args 0)
  give (unit_given form (unit_at_position units position))

-- `indexOf` and `lastIndexOf` (15.5.4.7, 15.5.4.8)
abbrev pub place_in_string : Search → List ℕ → List Value → Algorithm Value
place_in_string which units args = do
  part ← to_string (argument_at args 0)
  position ← to_number (argument_at args 1)
  give (place_of_part which units part position)

-- `slice` and `substring` (15.5.4.13, 15.5.4.15)
abbrev pub part_of_string : Cut → List ℕ → List Value → Algorithm Value
part_of_string which units args = do
  start ← to_integer (argument_at args 0)
  end ← to_end (argument_at args 1) (length units)
  give_string (units_cut which units start end)
