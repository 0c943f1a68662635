use Rattle.std.proofs.lemmas.Result.{IfOk-weaker}
use Rattle.jl_lib_array.proofs.Moved.{unshifts}
use Rattle.jl_lib_array.proofs.lengths.unshift.Goals as goal

pub returns-clause-refines : goal.returns-clause-refines
returns-clause-refines c =
    IfOk-weaker _ _ _ (λ a refines. unshifts c.args.state.now _ _ c.args.object c.args.args c.args.length _ _
    c.len-added.ensures c.in_ok-after.ensures refines) c.begin_turn.ensures.refines
