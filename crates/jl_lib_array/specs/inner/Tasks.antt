-- What tasks come to when no turn is left.
use Rattle.std.specs.Prelude.{false}
use Rattle.jl_value.specs.declared.value.Value.{Value}
use Rattle.jl_value.specs.declared.value.Value.TheVariants as value
use Rattle.jl_meaning.specs.Parts.{give, Algorithm}
use Rattle.jl_meaning.specs.Relations.{give_truth}
use Rattle.jl_meaning.specs.builtins.Arguments.{give_object}
use Rattle.jl_meaning.specs.builtins.ArrayCallbacks.{give_combined}
use Rattle.jl_progress.specs.ArrayCalls.{any_truth}
use Rattle.jl_progress.specs.declared.array_call.Task.{Task}
use Rattle.jl_progress.specs.declared.array_call.Task.TheVariants as task

abbrev pub task_end : Task → Algorithm Value
task_end (task.Any wanted) = give_truth (any_truth wanted false)
task_end task.ForEach = give value.Undefined
task_end (task.Map a) = give_object a
task_end (task.Filter a to) = give_object a
task_end (task.Reduce so_far d) = give_combined so_far
