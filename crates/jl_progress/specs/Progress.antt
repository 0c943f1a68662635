-- What a builtin does with the value that it waited for, and how much it may still do without a step.
use Rattle.std.specs.Prelude.{drop, ℕ}
use Rattle.jl_value.specs.declared.value.Value.{Value}
use Rattle.jl_meaning.specs.Parts.{◌>>=◌, Algorithm}
use Rattle.jl_meaning.specs.builtins.Arguments.{give_object}
use Rattle.jl_meaning.specs.builtins.Elements.{add_in_turns}
use Rattle.jl_progress.specs.ArrayCalls.{array_call_after, rank_array_call}
use Rattle.jl_progress.specs.Arrays.{array_after, rank_array}
use Rattle.jl_progress.specs.Errors.{error_after, rank_error}
use Rattle.jl_progress.specs.Functions.{function_after, rank_function}
use Rattle.jl_progress.specs.Globals.{global_after, rank_global}
use Rattle.jl_progress.specs.Numbers.{number_after, rank_number}
use Rattle.jl_progress.specs.Objects.{object_after, rank_object}
use Rattle.jl_progress.specs.Strings.{rank_string, string_after}
use Rattle.jl_progress.specs.declared.progress.Progress.{Progress}
use Rattle.jl_progress.specs.declared.progress.Progress.TheVariants as progress

abbrev pub progress_after : Progress → Value → Algorithm Value
progress_after (progress.Object p) v = object_after p v
progress_after (progress.Function p) v = function_after p v
progress_after (progress.Array p) v = array_after p v
progress_after (progress.ArrayCall p) v = array_call_after p v
progress_after (progress.String p) v = string_after p v
progress_after (progress.Global p) v = global_after p v
progress_after (progress.Number p) v = number_after p v
progress_after (progress.Error p) v = error_after p v
progress_after (progress.Fill array values from) _ = do
  _ ← add_in_turns array from (drop from values)
  give_object array

abbrev pub rank_progress : Progress → ℕ
rank_progress (progress.Object p) = rank_object p
rank_progress (progress.Function p) = rank_function p
rank_progress (progress.Array p) = rank_array p
rank_progress (progress.ArrayCall p) = rank_array_call p
rank_progress (progress.String p) = rank_string p
rank_progress (progress.Global p) = rank_global p
rank_progress (progress.Number p) = rank_number p
rank_progress (progress.Error p) = rank_error p
rank_progress (progress.Fill array values from) = 6
