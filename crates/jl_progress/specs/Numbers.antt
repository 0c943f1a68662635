-- What the builtins of numbers and of Math do with the value that they waited for (15.7, 15.8).
use Rattle.std.specs.Int.{int_max, int_min}
use Rattle.std.specs.Option.{option_map_or}
use Rattle.std.specs.Prelude.{drop, Some, ℕ, ℤ}
use Rattle.jl_num.specs.Number.{Number}
use Rattle.jl_num.specs.Power.{power_of}
use Rattle.jl_value.specs.declared.object.Class.TheVariants as class
use Rattle.jl_value.specs.declared.value.Value.{Value}
use Rattle.jl_value.specs.declared.value.Value.TheVariants as value
use Rattle.jl_meaning.specs.Conversions.{integer_of, to_number}
use Rattle.jl_meaning.specs.Intrinsics.{number_prototype}
use Rattle.jl_meaning.specs.Operators.{give_number}
use Rattle.jl_meaning.specs.Parts.{give, ◌>>=◌, Algorithm}
use Rattle.jl_meaning.specs.builtins.Arguments.{value_or_object}
use Rattle.jl_meaning.specs.builtins.Math.{absolute_value, one_of, one_of_all}
use Rattle.jl_meaning.specs.builtins.Number.{string_in_radix}
use Rattle.jl_progress.specs.Primitives.{number_of_primitive}
use Rattle.jl_progress.specs.declared.number.Extreme.{Extreme}
use Rattle.jl_progress.specs.declared.number.Extreme.TheVariants as extreme
use Rattle.jl_progress.specs.declared.number.NumberFunction.{NumberFunction}
use Rattle.jl_progress.specs.declared.number.NumberFunction.TheVariants as function
use Rattle.jl_progress.specs.declared.number.NumberProgress.{NumberProgress}
use Rattle.jl_progress.specs.declared.number.NumberProgress.TheVariants as number

abbrev pub of_number : NumberFunction → Number → Number
of_number function.Absolute n = absolute_value n
of_number function.Whole n = n

-- one of two whole numbers
abbrev pub pick_of : Extreme → ℤ → ℤ → ℤ
pick_of extreme.Greatest = int_max
pick_of extreme.Least = int_min

abbrev pub number_after : NumberProgress → Value → Algorithm Value
number_after (number.Given by_new) p = do
  n ← number_of_primitive p
  value_or_object by_new class.Number number_prototype (value.Num n)
number_after (number.Radix n) p = do
  radix ← number_of_primitive p
  string_in_radix n (integer_of radix)
number_after (number.Argument f) p = do
  n ← number_of_primitive p
  give (value.Num (of_number f n))
number_after (number.Extreme which so_far args from) p = do
  n ← number_of_primitive p
  one_of_all (pick_of which) (Some (option_map_or (λ m. one_of (pick_of which) m n) so_far n)) (drop from args)
number_after (number.Base exponent) p = do
  x ← number_of_primitive p
  y ← to_number exponent
  give_number (power_of x y)
number_after (number.Exponent x) p = do
  y ← number_of_primitive p
  give_number (power_of x y)

abbrev pub rank_number : NumberProgress → ℕ
rank_number (number.Given by_new) = 6
rank_number (number.Radix n) = 6
rank_number (number.Argument f) = 6
rank_number (number.Extreme which so_far args from) = 6
rank_number (number.Base exponent) = 30
rank_number (number.Exponent x) = 6
