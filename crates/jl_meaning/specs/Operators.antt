-- What operators do with their operands (11.3 to 11.10).
use Rattle.std.specs.Prelude.{false, if◌then◌else◌, not, pos, true, ◌++◌, ◌||◌, Bool, None, Option, Some}
use Rattle.jl_num.specs.Arithmetic.{difference_of, negative_of, product_of, quotient_of, remainder_of, sum_of}
use Rattle.jl_num.specs.Bits.{and_of, complement_of, left_shift_of, or_of, right_shift_of, unsigned_right_shift_of}
use Rattle.jl_num.specs.Bits.{xor_of}
use Rattle.jl_num.specs.Number.{is_number, Number}
use Rattle.jl_ast.specs.declared.ops.BinOp.{BinOp}
use Rattle.jl_ast.specs.declared.ops.BinOp.TheVariants as binary
use Rattle.jl_value.specs.declared.value.Value.{Value}
use Rattle.jl_value.specs.declared.value.Value.TheVariants as value
use Rattle.jl_conv.specs.Comparisons.{strictly_equal}
use Rattle.jl_conv.specs.Conversions.{number_of_value, text_of_value, truth_of, type_text}
use Rattle.jl_op.specs.declared.sign.UnKind.{UnKind}
use Rattle.jl_op.specs.declared.sign.UnKind.TheVariants as unary
use Rattle.jl_meaning.specs.Conversions.{no_hint, to_number, to_primitive}
use Rattle.jl_meaning.specs.Errors.{string_within}
use Rattle.jl_meaning.specs.Getting.{is_callable}
use Rattle.jl_meaning.specs.Parts.{give, look, or_fault, ◌>>=◌, Algorithm, NumberOutside}
use Rattle.jl_meaning.specs.Relations.{abstract_equality, give_truth, greater, greater_or_equal, in_object}
use Rattle.jl_meaning.specs.Relations.{instance_of, less, less_or_equal, negate_if}

abbrev pub is_string : Value → Bool
is_string (value.Text units) = true
is_string _ = false

abbrev pub give_number : Option Number → Algorithm Value
give_number n = do
  number ← or_fault NumberOutside n
  give (value.Num number)

-- both operands as numbers, the left one first (11.5, 11.6.2, 11.7, 11.10)
abbrev pub on_numbers : (Number → Number → Option Number) → Value → Value → Algorithm Value
on_numbers f a b = do
  x ← to_number a
  y ← to_number b
  give_number (f x y)

-- the same where there always is a number
abbrev pub on_all_numbers : (Number → Number → Number) → Value → Value → Algorithm Value
on_all_numbers f a b = on_numbers (λ x y. Some (f x y)) a b

-- strings are concatenated, and other primitive values are added (11.6.1, steps 7 and 8)
abbrev pub sum_of_primitives : Value → Value → Algorithm Value
sum_of_primitives a b =
    if is_string a || is_string b
    then (do
      units ← string_within (text_of_value a ++ text_of_value b)
      give (value.Text units))
    else (do
      x ← or_fault NumberOutside (number_of_value a)
      y ← or_fault NumberOutside (number_of_value b)
      give_number (sum_of x y))

-- a + b (11.6.1)
abbrev pub sum : Value → Value → Algorithm Value
sum a b = do
  x ← to_primitive no_hint a
  y ← to_primitive no_hint b
  sum_of_primitives x y

-- an operator between two operands
unfoldable pub binary_result : BinOp → Value → Value → Algorithm Value
binary_result binary.Mul a b = on_numbers product_of a b
binary_result binary.Div a b = on_numbers quotient_of a b
binary_result binary.Rem a b = on_all_numbers remainder_of a b
binary_result binary.Add a b = sum a b
binary_result binary.Sub a b = on_numbers difference_of a b
binary_result binary.Shl a b = on_all_numbers left_shift_of a b
binary_result binary.Sar a b = on_all_numbers right_shift_of a b
binary_result binary.Shr a b = on_all_numbers unsigned_right_shift_of a b
binary_result binary.Less a b = less a b
binary_result binary.Greater a b = greater a b
binary_result binary.LessEq a b = less_or_equal a b
binary_result binary.GreaterEq a b = greater_or_equal a b
binary_result binary.InstanceOf a b = instance_of a b
binary_result binary.In a b = in_object a b
binary_result binary.Equal a b = negate_if false (abstract_equality a b)
binary_result binary.NotEqual a b = negate_if true (abstract_equality a b)
binary_result binary.StrictEqual a b = give_truth (strictly_equal a b)
binary_result binary.StrictNotEqual a b = give_truth (not (strictly_equal a b))
binary_result binary.BitAnd a b = on_all_numbers and_of a b
binary_result binary.BitXor a b = on_all_numbers xor_of a b
binary_result binary.BitOr a b = on_all_numbers or_of a b

abbrev pub on_number : (Number → Option Number) → Value → Algorithm Value
on_number f v = do
  n ← to_number v
  give_number (f n)

abbrev pub one : Number
one = Some (pos 1)

-- one more, or one less (11.3, 11.4.4, 11.4.5)
abbrev pub next_number : UnKind → Number → Option Number
next_number unary.Down n = difference_of n one
next_number _ n = sum_of n one

-- a number that no script has is past the end already; no run meets it
abbrev pub is_script_number : Number → Bool
is_script_number None = true
is_script_number (Some z) = is_number z

-- the number after this one, or before it, if it is one of a script
abbrev pub next_after : UnKind → Number → Option Number
next_after o n = if is_script_number n then next_number o n else None

abbrev pub give_next : UnKind → Number → Algorithm Value
give_next o n = give_number (next_after o n)

-- the new value of `++` and `--`
abbrev pub updated_value : UnKind → Value → Algorithm Value
updated_value o v = do
  n ← to_number v
  give_next o n

-- an operator with one operand (11.4.2 to 11.4.9), and the new value of an update
unfoldable pub unary_result : UnKind → Value → Algorithm Value
unary_result unary.Minus v = on_number (λ n. Some (negative_of n)) v
unary_result unary.Plus v = on_number (λ n. Some n) v
unary_result unary.Not v = give_truth (not (truth_of v))
unary_result unary.Tilde v = on_number (λ n. Some (complement_of n)) v
unary_result unary.Typeof v = do
  store ← look
  give (value.Text (type_text v (is_callable store.heap v)))
unary_result unary.Void v = give value.Undefined
unary_result unary.Up v = updated_value unary.Up v
unary_result unary.Down v = updated_value unary.Down v
