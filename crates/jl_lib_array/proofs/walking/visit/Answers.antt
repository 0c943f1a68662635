use Rattle.std.proofs.Common.{refl}
use Rattle.std.proofs.lemmas.Result.{IfOk-weaker}
use Rattle.jl_progress.specs.ArrayCalls.{task_with, walk_of}
use Rattle.jl_progress.specs.declared.array_call.ArrayCallProgress.TheVariants as array_call
use Rattle.jl_progress.specs.declared.progress.Progress.TheVariants as progress
use Rattle.jl_builtin.proofs.Waits.{element_missing, element_waits}
use Rattle.jl_lib_array.proofs.TaskTurns.{element_passed}
use Rattle.jl_lib_array.proofs.walking.visit.Goals as goal

pub returns-then-not-there-clause-refines : goal.returns-then-not-there-clause-refines
returns-then-not-there-clause-refines c =
    IfOk-weaker _ _ _ (λ a refines. element_missing c.args.state.now c.args.walk.object c.args.index _
    (task_with c.args.task (walk_of c.args.walk) c.args.index) _ _ c.in_ok-there.ensures c.if-not-there.true
    (element_passed _ (walk_of c.args.walk) _ _ c.args.task _ _ c.args.index c.direction_of.ensures c.in_ok-at.ensures
    refines)) c.go_on_walking.ensures.refines

pub returns-clause-refines : goal.returns-clause-refines
returns-clause-refines c =
    IfOk-weaker _ _ _ (λ a refines. element_waits _ _ (progress.ArrayCall
    (array_call.Element c.args.walk c.args.task c.args.index)) c.args.walk.object c.args.index _
    (task_with c.args.task (walk_of c.args.walk) c.args.index) _ _ c.in_ok-there.ensures c.if-not-there.false
    (λ v. refl) c.in_ok-push_builtin.ensures.waits refines) c.get_index.ensures.refines
