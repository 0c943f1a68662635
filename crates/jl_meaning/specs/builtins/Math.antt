-- Math (15.8).
use Rattle.std.specs.Int.{int_max, int_min}
use Rattle.std.specs.Option.{option_map_or}
use Rattle.std.specs.Prelude.{[], pos, unsigned_abs, ◌∷◌, List, None, Option, Some, ℤ}
use Rattle.jl_num.specs.Number.{Number}
use Rattle.jl_num.specs.Power.{power_of}
use Rattle.jl_value.specs.declared.builtin_groups.MathBuiltin.{MathBuiltin}
use Rattle.jl_value.specs.declared.builtin_groups.MathBuiltin.TheVariants as math_builtin
use Rattle.jl_value.specs.declared.value.Value.{Value}
use Rattle.jl_value.specs.declared.value.Value.TheVariants as value
use Rattle.jl_effects.specs.Effects.{Step}
use Rattle.jl_meaning.specs.Conversions.{to_number}
use Rattle.jl_meaning.specs.Operators.{give_number}
use Rattle.jl_meaning.specs.Parts.{give, ◌>>=◌, Algorithm, Call}
use Rattle.jl_meaning.specs.builtins.Arguments.{argument}

-- Math.abs(x) (15.8.2.1)
abbrev pub absolute_value : Number → Number
absolute_value None = None
absolute_value (Some z) = Some (pos (unsigned_abs z))

abbrev pub on_argument : (Number → Number) → Call → Algorithm Value
on_argument f c = do
  n ← to_number (argument c 0)
  give (value.Num (f n))

abbrev pub math_abs : Call → Algorithm Value
math_abs c = on_argument absolute_value c

-- Math.ceil(x), Math.floor(x) and Math.round(x) (15.8.2.6, 15.8.2.9, 15.8.2.15)
abbrev pub math_whole : Call → Algorithm Value
math_whole c = on_argument (λ n. n) c

-- one of two numbers, and NaN where one is NaN
abbrev pub one_of : (ℤ → ℤ → ℤ) → Number → Number → Number
one_of pick None b = None
one_of pick (Some a) None = None
one_of pick (Some a) (Some b) = Some (pick a b)

-- of the numbers of these, and one that there is so far, the one that is picked; each takes a turn
abbrev pub one_of_all : (ℤ → ℤ → ℤ) → (so_far : Option Number) → List Value → Algorithm Value
one_of_all pick so_far [] = give_number so_far
one_of_all pick so_far (v ∷ vs) = Step do
  n ← to_number v
  one_of_all pick (Some (option_map_or (λ m. one_of pick m n) so_far n)) vs

-- Math.max(value1, ..) and Math.min(value1, ..) (15.8.2.11, 15.8.2.12); without an argument it would be an infinity
abbrev pub math_max : Call → Algorithm Value
math_max c = one_of_all int_max None c.args

abbrev pub math_min : Call → Algorithm Value
math_min c = one_of_all int_min None c.args

-- Math.pow(x, y) (15.8.2.13)
abbrev pub math_pow : Call → Algorithm Value
math_pow c = do
  x ← to_number (argument c 0)
  y ← to_number (argument c 1)
  give_number (power_of x y)

-- what a call of each does
abbrev pub math_algorithm : MathBuiltin → Call → Algorithm Value
math_algorithm math_builtin.Abs c = math_abs c
math_algorithm math_builtin.Ceil c = math_whole c
math_algorithm math_builtin.Floor c = math_whole c
math_algorithm math_builtin.Max c = math_max c
math_algorithm math_builtin.Min c = math_min c
math_algorithm math_builtin.Pow c = math_pow c
math_algorithm math_builtin.Round c = math_whole c
