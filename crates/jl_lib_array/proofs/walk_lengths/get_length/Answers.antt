use Rattle.std.proofs.Common.{refl}
use Rattle.std.proofs.lemmas.Result.{IfOk-weaker}
use Rattle.jl_progress.specs.ArrayCalls.{with_length}
use Rattle.jl_progress.specs.declared.array_call.ArrayCallProgress.TheVariants as array_call
use Rattle.jl_progress.specs.declared.progress.Progress.TheVariants as progress
use Rattle.jl_builtin.proofs.Waits.{length_waits}
use Rattle.jl_lib_array.proofs.walk_lengths.get_length.Goals as goal

pub returns-clause-refines : goal.returns-clause-refines
returns-clause-refines c =
    IfOk-weaker _ _ _ (λ a refines. length_waits _ _ (progress.ArrayCall
    (array_call.Length c.args.object c.args.args c.args.purpose)) c.args.object _
    (with_length c.args.purpose c.args.object c.args.args) _ _ c.in_ok-name.ensures (λ v. refl)
    c.in_ok-push_builtin.ensures.waits refines) c.get.ensures.refines
