-- Tests of values: whether one is undefined, nothing or an object (8.1, 8.2, 8.6).
use Rattle.std.specs.Prelude.{false, true, Bool}
use Rattle.jl_value.specs.declared.value.Value.{Value}
use Rattle.jl_value.specs.declared.value.Value.TheVariants as values

abbrev pub is_undefined : Value → Bool
is_undefined values.Undefined = true
is_undefined _ = false

-- it is undefined or null
abbrev pub is_nothing : Value → Bool
is_nothing values.Undefined = true
is_nothing values.Null = true
is_nothing _ = false

abbrev pub is_object : Value → Bool
is_object (values.Obj place) = true
is_object _ = false
