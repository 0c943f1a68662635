-- What is left of a builtin that takes its arguments one a turn.
use Rattle.std.specs.Prelude.{List, ℕ}
use Rattle.jl_value.specs.declared.value.Value.{Value}
use Rattle.jl_meaning.specs.Errors.{string_within}
use Rattle.jl_meaning.specs.Parts.{◌>>=◌, Algorithm}
use Rattle.jl_meaning.specs.builtins.Arguments.{give_string}
use Rattle.jl_meaning.specs.builtins.String.{concat_all, units_from}

-- the units of these numbers after those so far, as a string (15.5.3.2)
abbrev pub string_of_codes : (units : List ℕ) → List Value → Algorithm Value
string_of_codes units vs = do
  all ← units_from units vs
  within ← string_within all
  give_string within

-- these as strings after what is there so far (15.5.4.6)
abbrev pub string_joined : (units : List ℕ) → List Value → Algorithm Value
string_joined units vs = do
  all ← concat_all units vs
  give_string all
