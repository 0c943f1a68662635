use Rattle.std.proofs.lemmas.Result.{IfOk-weaker}
use Rattle.jl_lib_array.proofs.Exchanged.{deletes_exchanged, puts_exchanged}
use Rattle.jl_lib_array.proofs.reversing.step_reverse_exchange.Goals as goal

pub returns-in-Some-clause-refines : goal.returns-in-Some-clause-refines
returns-in-Some-clause-refines c =
    IfOk-weaker _ _ _ (λ a refines. puts_exchanged _ _ _ c.args.reversing c.args.low c.in-Some.low c.in-Some.is refines)
    c.put_above.ensures.refines

pub returns-in_ok-progress-in-None-clause-refines : goal.returns-in_ok-progress-in-None-clause-refines
returns-in_ok-progress-in-None-clause-refines c =
    IfOk-weaker _ _ _ (λ a refines. deletes_exchanged _ _ _ c.args.reversing c.args.low _
    c.in_ok-progress-in-None.progress c.in-None.is c.upper_of-upper.ensures c.in_ok-progress-in-None.ensures.turn
    refines)
    c.delete_then.ensures.refines
