use Rattle.std.proofs.lemmas.Result.{IfOk-weaker}
use Rattle.jl_progress.specs.Arrays.{array_after}
use Rattle.jl_lib_array.proofs.Gets.{length_of_item}
use Rattle.jl_lib_array.proofs.Waiting.{falls_waiting}
use Rattle.jl_lib_array.proofs.appending.get_length.Goals as goal

pub returns-clause-refines : goal.returns-clause-refines
returns-clause-refines c =
    IfOk-weaker _ _ _ (λ a refines. length_of_item c.args.state.now _ _ c.args.item _ (array_after c.args.progress)
    c.in_ok-name.ensures (c.in_ok-wait.ensures.waits.works _ _ _ refines)) c.get.ensures.refines

pub returns-clause-bounded : goal.returns-clause-bounded
returns-clause-bounded c =
    IfOk-weaker _ _ _ (λ a bounded. falls_waiting _ _ _ _ c.args.progress _ c.in_ok-wait.ensures.pushed bounded)
    c.get.ensures.bounded
