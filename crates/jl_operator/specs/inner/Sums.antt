-- The two ways in which primitive values are added.
use Rattle.std.specs.Prelude.{◌++◌, List, ℕ}
use Rattle.jl_num.specs.Arithmetic.{sum_of}
use Rattle.jl_value.specs.declared.value.Value.{Value}
use Rattle.jl_value.specs.declared.value.Value.TheVariants as value
use Rattle.jl_conv.specs.Conversions.{number_of_value}
use Rattle.jl_meaning.specs.Errors.{string_within}
use Rattle.jl_meaning.specs.Operators.{give_number}
use Rattle.jl_meaning.specs.Parts.{give, or_fault, ◌>>=◌, Algorithm, NumberOutside}

-- as strings (11.6.1, step 7)
abbrev pub text_of_texts : (front back : List ℕ) → Algorithm Value
text_of_texts front back = do
  units ← string_within (front ++ back)
  give (value.Text units)

-- as numbers (11.6.1, step 8)
abbrev pub sum_of_numbers : Value → Value → Algorithm Value
sum_of_numbers a b = do
  x ← or_fault NumberOutside (number_of_value a)
  y ← or_fault NumberOutside (number_of_value b)
  give_number (sum_of x y)
