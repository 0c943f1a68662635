use Rattle.std.proofs.lemmas.Result.{IfOk-weaker}
use Rattle.jl_lib_array.proofs.Moved.{shifts}
use Rattle.jl_lib_array.proofs.shifting.step_shift_first.Goals as goal

pub returns-clause-refines : goal.returns-clause-refines
returns-clause-refines c =
    IfOk-weaker _ _ _ (λ a refines. shifts _ _ _ c.args.object c.args.last c.args.first refines)
    c.begin_turn.ensures.refines
