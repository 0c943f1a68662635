use Rattle.std.proofs.Common.{refl}
use Rattle.std.proofs.lemmas.Result.{IfOk-weaker}
use Rattle.jl_num.specs.Bits.{uint32_of}
use Rattle.jl_progress.specs.ArrayCalls.{with_length}
use Rattle.jl_progress.specs.declared.array_call.ArrayCallProgress.TheVariants as array_call
use Rattle.jl_progress.specs.declared.progress.Progress.TheVariants as progress
use Rattle.jl_builtin.proofs.Waits.{builtin_waits}
use Rattle.jl_lib_array.proofs.walk_lengths.step_length.Goals as goal

pub returns-clause-refines : goal.returns-clause-refines
returns-clause-refines c =
    IfOk-weaker _ _ _ (λ a refines. builtin_waits _ _ (progress.ArrayCall
    (array_call.LengthPrimitive c.args.object c.args.args c.args.purpose)) (λ n. with_length c.args.purpose
    c.args.object c.args.args (uint32_of n)) c.args.v _ _ (λ w. refl) c.in_ok-push_builtin.ensures.waits refines)
    c.to_primitive.ensures.refines
