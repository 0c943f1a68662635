-- What the builtins of the prototype of functions do with the value that they waited for (15.3).
use Rattle.std.specs.Prelude.{[], ◌++◌, ◌-◌, ◌∷◌, ℕ}
use Rattle.jl_num.specs.Bits.{uint32_of}
use Rattle.jl_value.specs.declared.value.Value.{Value}
use Rattle.jl_meaning.specs.Conversions.{to_uint32}
use Rattle.jl_meaning.specs.Parts.{call, ◌>>=◌, Algorithm}
use Rattle.jl_meaning.specs.builtins.Function.{append_element}
use Rattle.jl_meaning.specs.builtins.Turns.{upward}
use Rattle.jl_progress.specs.Primitives.{number_of_primitive}
use Rattle.jl_progress.specs.declared.function.FunctionProgress.{FunctionProgress}
use Rattle.jl_progress.specs.declared.function.FunctionProgress.TheVariants as function

abbrev pub function_after : FunctionProgress → Value → Algorithm Value
function_after (function.Length f this list) v = do
  n ← to_uint32 v
  args ← upward (append_element list) n 0 []
  call f this args
function_after (function.LengthPrimitive f this list) p = do
  n ← number_of_primitive p
  args ← upward (append_element list) (uint32_of n) 0 []
  call f this args
function_after (function.Element f this list args from length) v = do
  all ← upward (append_element list) (length - from) from (args ++ v ∷ [])
  call f this all

abbrev pub rank_function : FunctionProgress → ℕ
rank_function (function.Length f this list) = 22
rank_function (function.LengthPrimitive f this list) = 6
rank_function (function.Element f this list args from length) = 6
