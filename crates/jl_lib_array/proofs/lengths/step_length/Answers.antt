use Rattle.std.proofs.Common.{subst}
use Rattle.std.proofs.lemmas.Result.{IfOk-weaker}
use Rattle.jl_progress.specs.Arrays.{with_length}
use Rattle.jl_state.specs.Rest.{RefinesAlgorithm}
use Rattle.jl_builtin.proofs.Conversions.{uint32_converts}
use Rattle.jl_lib_array.proofs.lengths.step_length.Goals as goal

pub returns-clause-refines : goal.returns-clause-refines
returns-clause-refines c =
    IfOk-weaker _ _ _ (λ a refines. subst (λ p. RefinesAlgorithm c.args.state.now p c.wait_for_number.new.state a)
    (uint32_converts
    c.args.v (with_length c.args.function c.args.object c.args.args)) refines) c.wait_for_number.ensures.refines
