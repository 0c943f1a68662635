use Rattle.std.proofs.lemmas.Result.{IfOk-weaker}
use Rattle.jl_lib_array.proofs.Waiting.{falls_waiting}
use Rattle.jl_lib_array.proofs.frames.get_for.Goals as goal

pub returns-clause-refines : goal.returns-clause-refines
returns-clause-refines c =
    IfOk-weaker _ _ _ (λ a refines. c.in_ok-wait.ensures.waits.works _ _ _ refines) c.get_index.ensures.refines

pub returns-clause-bounded : goal.returns-clause-bounded
returns-clause-bounded c =
    IfOk-weaker _ _ _ (λ a bounded. falls_waiting _ _ _ _ c.args.progress _ c.in_ok-wait.ensures.pushed bounded)
    c.get_index.ensures.bounded
