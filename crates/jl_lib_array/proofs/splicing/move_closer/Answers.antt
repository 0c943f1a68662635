use Rattle.std.proofs.lemmas.Result.{IfOk-weaker}
use Rattle.jl_lib_array.proofs.Moved.{closes}
use Rattle.jl_lib_array.proofs.splicing.move_closer.Goals as goal

pub returns-clause-refines : goal.returns-clause-refines
returns-clause-refines c =
    IfOk-weaker _ _ _ (λ a refines. closes _ _ _ c.args.splicing _ _ c.len.ensures c.after_removed.ensures refines)
    c.begin_turn.ensures.refines
