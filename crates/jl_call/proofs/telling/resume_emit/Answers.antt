use Rattle.std.proofs.lemmas.Result.{IfOk-weaker}
use Rattle.jl_call.proofs.Told.{puts_told}
use Rattle.jl_call.proofs.telling.resume_emit.Goals as goal

pub returns-in-Put-clause-refines : goal.returns-in-Put-clause-refines
returns-in-Put-clause-refines c =
    IfOk-weaker _ _ _ (λ a refines. puts_told c.args.state.now _ _ c.args.frame c.in-Put.base c.in-Put.name
    c.in-Put.value
    c.in-Put.strict c.in-Put.gives c.in-Put.is refines) c.put.ensures.refines
