-- Numbers and the objects that stand for them (15.7).
use Rattle.std.specs.Int.{is_in_range}
use Rattle.std.specs.Prelude.{if◌then◌else◌, negsuc, pos, Bool, None, Option, Some, ℕ, ℤ}
use Rattle.jl_num.specs.Number.{Number}
use Rattle.jl_value.specs.Intrinsics.{number_prototype}
use Rattle.jl_value.specs.declared.object.Class.TheVariants as class
use Rattle.jl_value.specs.declared.value.Value.{Value}
use Rattle.jl_value.specs.declared.value.Value.TheVariants as value
use Rattle.jl_meaning.specs.Parts.{Algorithm}
use Rattle.jl_meaning.specs.builtins.Arguments.{value_or_object}

-- a number, or with `new` an object that stands for it
abbrev pub number_or_object : (by_new : Bool) → Number → Algorithm Value
number_or_object by_new n = value_or_object by_new class.Number number_prototype (value.Num n)

-- the radix that an integer is, if it is one
abbrev pub radix_of : ℤ → Option ℕ
radix_of (negsuc r) = None
radix_of (pos r) = if is_in_range 2 36 r then Some r else None
