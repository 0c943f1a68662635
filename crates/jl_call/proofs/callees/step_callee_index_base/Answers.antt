use Rattle.std.proofs.lemmas.Result.{IfOk-weaker}
use Rattle.jl_call.proofs.Methods.{evaluates_key}
use Rattle.jl_call.proofs.callees.step_callee_index_base.Goals as goal

pub returns-clause-refines : goal.returns-clause-refines
returns-clause-refines c =
    IfOk-weaker _ _ _ (λ a refines. evaluates_key c.args.state.now _ _ c.args.args c.args.here c.args.v c.args.key
    c.deref.result.now c.deref.ensures refines) c.evaluate.ensures.refines
