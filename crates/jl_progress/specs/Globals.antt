-- What the functions of the global object do with the value that they waited for (15.1.2).
use Rattle.std.specs.Prelude.{drop, false, is_none, not, true, ◌++◌, ◌∷◌, Bool, List, ℕ}
use Rattle.jl_num.specs.Bits.{int32_of}
use Rattle.jl_num.specs.Number.{Number}
use Rattle.jl_value.specs.declared.value.Value.{Value}
use Rattle.jl_conv.specs.Conversions.{text_of_value}
use Rattle.jl_conv.specs.Numerals.{without_front}
use Rattle.jl_meaning.specs.Conversions.{to_number}
use Rattle.jl_meaning.specs.Operators.{give_number}
use Rattle.jl_meaning.specs.Parts.{◌>>=◌, Algorithm}
use Rattle.jl_meaning.specs.Relations.{give_truth}
use Rattle.jl_meaning.specs.builtins.Global.{parse_signed, print_others}
use Rattle.jl_progress.specs.Primitives.{number_of_primitive}
use Rattle.jl_progress.specs.declared.global.GlobalProgress.{GlobalProgress}
use Rattle.jl_progress.specs.declared.global.GlobalProgress.TheVariants as global
use Rattle.jl_progress.specs.declared.global.NumberTest.{NumberTest}
use Rattle.jl_progress.specs.declared.global.NumberTest.TheVariants as test

-- a text after what a line has, and a space if it isn't the first
abbrev pub line_with : (line : List ℕ) → (is_first : Bool) → List ℕ → List ℕ
line_with line true units = units
line_with line false units = line ++ 32 ∷ units

-- what is asked of a number; none here is an infinity
abbrev pub passes : NumberTest → Number → Bool
passes test.IsNan n = is_none n
passes test.IsFinite n = not (is_none n)

-- the number that a string writes in front, in a radix
abbrev pub parse_in : (radix : Number) → List ℕ → Algorithm Value
parse_in radix units = give_number (parse_signed (int32_of radix) (without_front units))

abbrev pub global_after : GlobalProgress → Value → Algorithm Value
global_after (global.Print line is_first args from) p =
    print_others (line_with line is_first (text_of_value p)) (drop from args)
global_after (global.Numeral radix) p = do
  n ← to_number radix
  parse_in n (text_of_value p)
global_after (global.Radix units) p = do
  n ← number_of_primitive p
  parse_in n units
global_after (global.Test which) p = do
  n ← number_of_primitive p
  give_truth (passes which n)

abbrev pub rank_global : GlobalProgress → ℕ
rank_global (global.Print line is_first args from) = 6
rank_global (global.Numeral radix) = 30
rank_global (global.Radix units) = 6
rank_global (global.Test which) = 6
