use Rattle.std.proofs.lemmas.Result.{IfOk-weaker}
use Rattle.jl_meaning.specs.builtins.Elements.{delete_index}
use Rattle.jl_lib_array.proofs.Turns.{then_turn}
use Rattle.jl_lib_array.proofs.Waiting.{falls_waiting}
use Rattle.jl_lib_array.proofs.frames.delete_then.Goals as goal

pub returns-clause-refines : goal.returns-clause-refines
returns-clause-refines c =
    IfOk-weaker _ _ _ (λ a refines. then_turn c.args.state.now _ _ _ (delete_index c.args.object c.args.index)
    c.args.progress c.in_ok-wait.ensures.waits refines) c.delete_element.ensures.refines

pub returns-clause-bounded : goal.returns-clause-bounded
returns-clause-bounded c =
    IfOk-weaker _ _ _ (λ a bounded. falls_waiting _ _ _ _ c.args.progress _ c.in_ok-wait.ensures.pushed bounded)
    c.delete_element.ensures.bounded
