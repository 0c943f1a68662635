use Rattle.std.proofs.lemmas.Result.{IfOk-weaker}
use Rattle.jl_state.proofs.Acts.{gives_act}
use Rattle.jl_call.proofs.Invocations.{invokes_silently, invokes_telling}
use Rattle.jl_call.proofs.invoking.invoke_function.Goals as goal

pub returns-then-emits-clause-refines : goal.returns-then-emits-clause-refines
returns-then-emits-clause-refines c =
    IfOk-weaker _ _ _ (λ a refines. invokes_telling c.args.state.now _ _ c.args.emits c.args.id.pre c.args.call
    c.if-emits.true refines) c.tell_call.ensures.refines

pub returns-else-emits-clause-refines : goal.returns-else-emits-clause-refines
returns-else-emits-clause-refines c =
    gives_act _ _ _ _ c.call.ensures _ (invokes_silently _ c.args.emits c.args.id.pre c.args.call c.if-emits.false)
