use Rattle.std.proofs.Common.{refl}
use Rattle.std.proofs.lemmas.Result.{IfOk-weaker}
use Rattle.jl_call.proofs.Pairs.{took_first}
use Rattle.jl_call.proofs.openers.start_opener.Goals as goal

pub returns-clause-refines : goal.returns-clause-refines
returns-clause-refines c =
    IfOk-weaker _ _ _ (λ a refines. took_first c.args.id c.args.opener c.args.values.now c.args.second c.args.here
    c.args.state.now _ _ _ _ (c.if-not-spend.ensures.took refl) (c.if-not-spend.ensures.left refl) refines)
    c.enter_opener.ensures.refines
