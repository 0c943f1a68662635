use Rattle.std.proofs.Common.{Some}
use Rattle.std.proofs.lemmas.Result.{IfOk-weaker}
use Rattle.jl_progress.specs.ArrayCalls.{walk_of}
use Rattle.jl_progress.specs.declared.array_call.Task.TheVariants as task
use Rattle.jl_lib_array.proofs.Answering.{place_is}
use Rattle.jl_lib_array.proofs.tasks.go_on_reducing.Goals as goal

pub returns-clause-refines : goal.returns-clause-refines
returns-clause-refines c =
    IfOk-weaker _ _ _ (λ a refines. place_is _ (walk_of c.args.walk) _ _
    (task.Reduce (Some c.args.so_far) c.args.direction) _ _ c.in_ok-at.ensures refines) c.go_on_walking.ensures.refines
