-- How the functions of arrays begin that slice, search, or call another one for each element.
use Rattle.jl_value.specs.declared.value.Value.{Value}
use Rattle.jl_meaning.specs.Conversions.{to_object}
use Rattle.jl_meaning.specs.Parts.{◌>>=◌, Algorithm, Call}
use Rattle.jl_meaning.specs.builtins.Elements.{get_length}
use Rattle.jl_progress.specs.ArrayCalls.{with_length}
use Rattle.jl_progress.specs.declared.array_call.LengthFor.{LengthFor}

-- such a function asks for the length of `this` first
abbrev pub length_call : LengthFor → Call → Algorithm Value
length_call purpose c = do
  o ← to_object c.this
  length ← get_length o
  with_length purpose o c.args length
