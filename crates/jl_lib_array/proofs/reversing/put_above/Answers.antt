use Rattle.std.proofs.lemmas.Result.{IfOk-weaker}
use Rattle.jl_lib_array.proofs.Exchanged.{puts_above}
use Rattle.jl_lib_array.proofs.reversing.put_above.Goals as goal

pub returns-clause-refines : goal.returns-clause-refines
returns-clause-refines c =
    IfOk-weaker _ _ _ (λ a refines. puts_above _ _ _ c.args.reversing c.args.low _ c.in_ok-progress.progress
    c.upper_of-upper.ensures c.in_ok-progress.ensures.turn refines) c.put_then.ensures.refines
