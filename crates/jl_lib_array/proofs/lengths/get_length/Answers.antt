use Rattle.std.proofs.lemmas.Result.{IfOk-weaker}
use Rattle.jl_progress.specs.Arrays.{with_length}
use Rattle.jl_lib_array.proofs.Gets.{length_got}
use Rattle.jl_lib_array.proofs.lengths.get_length.Goals as goal

pub returns-clause-refines : goal.returns-clause-refines
returns-clause-refines c =
    IfOk-weaker _ _ _ (λ a refines. length_got c.args.state.now _ _ c.args.object _
    (with_length c.args.function c.args.object c.args.args) c.in_ok-name.ensures
    (c.in_ok-wait.ensures.waits.works _ _ _ refines)) c.get.ensures.refines
