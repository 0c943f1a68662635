use Rattle.std.proofs.lemmas.Result.{IfOk-weaker}
use Rattle.jl_lib_array.proofs.Spliced.{puts_items}
use Rattle.jl_lib_array.proofs.splicing.put_items.Goals as goal

pub returns-clause-refines : goal.returns-clause-refines
returns-clause-refines c =
    IfOk-weaker _ _ _ (λ a refines. puts_items _ _ _ c.args.splicing _ c.in_ok-length.ensures refines)
    c.begin_turn.ensures.refines
