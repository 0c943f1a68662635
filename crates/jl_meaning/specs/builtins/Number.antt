-- Number (15.7): the constructor, and the functions of its prototype.
use Rattle.std.specs.Int.{is_in_range}
use Rattle.std.specs.Prelude.{[], codes, if◌then◌else◌, negsuc, pos, ◌∷◌, List, None, Option, Some, ℤ}
use Rattle.jl_num.specs.Digits.{number_text}
use Rattle.jl_num.specs.Number.{Number}
use Rattle.jl_value.specs.declared.builtin.Builtin.TheVariants as builtin
use Rattle.jl_value.specs.declared.builtin_groups.NumberBuiltin.{NumberBuiltin}
use Rattle.jl_value.specs.declared.builtin_groups.NumberBuiltin.TheVariants as number_builtin
use Rattle.jl_value.specs.declared.error_kind.ErrorKind.TheVariants.{RangeError}
use Rattle.jl_value.specs.declared.object.Class.{Class}
use Rattle.jl_value.specs.declared.object.Class.TheVariants as class
use Rattle.jl_value.specs.declared.value.Value.{Value}
use Rattle.jl_value.specs.declared.value.Value.TheVariants as value
use Rattle.jl_heap.specs.Objects.{object_at, Objects}
use Rattle.jl_heap.specs.declared.inner.Inner.{Inner}
use Rattle.jl_heap.specs.declared.inner.Inner.TheVariants as inner
use Rattle.jl_meaning.specs.Conversions.{to_integer, to_number}
use Rattle.jl_meaning.specs.Errors.{throw_error}
use Rattle.jl_meaning.specs.Intrinsics.{number_prototype}
use Rattle.jl_meaning.specs.Parts.{give, look, ◌>>=◌, Algorithm, Call}
use Rattle.jl_meaning.specs.builtins.Arguments.{argument, give_string, need_receiver, unless_undefined, unsupported}
use Rattle.jl_meaning.specs.builtins.Arguments.{value_or_object}

-- the number of an argument, where there is one
abbrev pub number_given : List Value → Algorithm Number
number_given [] = give (Some (pos 0))
number_given (v ∷ vs) = to_number v

-- Number(value) and new Number(value) (15.7.1.1, 15.7.2.1)
abbrev pub number_constructor : Call → Algorithm Value
number_constructor c = do
  n ← number_given c.args
  value_or_object c.by_new class.Number number_prototype (value.Num n)

-- the number that a Number object stands for
abbrev pub number_inside : Class → Inner → Option Number
number_inside class.Number (inner.Wrapped (value.Num n)) = Some n
number_inside _ i = None

abbrev pub number_of_receiver : Objects → Value → Option Number
number_of_receiver heap (value.Num n) = Some n
number_of_receiver heap (value.Obj id) = number_inside (object_at heap id.0).class (object_at heap id.0).inner
number_of_receiver heap v = None

abbrev pub number_of_this : Call → Algorithm Number
number_of_this c = do
  store ← look
  need_receiver (number_of_receiver store.heap c.this)

-- the string of a number in a radix from 2 to 36
abbrev pub string_in_radix : Number → (radix : ℤ) → Algorithm Value
string_in_radix n (negsuc r) = throw_error RangeError (codes "bad radix")
string_in_radix n (pos r) =
    if is_in_range 2 36 r then give_string (number_text n r) else throw_error RangeError (codes "bad radix")

-- Number.prototype.toString(radix) (15.7.4.2)
abbrev pub number_to_string : Call → Algorithm Value
number_to_string c = do
  n ← number_of_this c
  radix ← unless_undefined (pos 10) to_integer (argument c 0)
  string_in_radix n radix

-- Number.prototype.valueOf() (15.7.4.4)
abbrev pub number_value_of : Call → Algorithm Value
number_value_of c = do
  n ← number_of_this c
  give (value.Num n)

-- what a call of each does
abbrev pub number_algorithm : NumberBuiltin → Call → Algorithm Value
number_algorithm number_builtin.Constructor c = number_constructor c
number_algorithm number_builtin.ToString c = number_to_string c
number_algorithm number_builtin.ValueOf c = number_value_of c
number_algorithm number_builtin.ToFixed c = unsupported (builtin.Number number_builtin.ToFixed) c
number_algorithm number_builtin.ToExponential c = unsupported (builtin.Number number_builtin.ToExponential) c
number_algorithm number_builtin.ToPrecision c = unsupported (builtin.Number number_builtin.ToPrecision) c
number_algorithm number_builtin.ToLocaleString c = unsupported (builtin.Number number_builtin.ToLocaleString) c
