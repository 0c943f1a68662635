use Rattle.std.proofs.lemmas.Result.{IfOk-weaker}
use Rattle.jl_function.proofs.Bodies.{runs_body}
use Rattle.jl_function.proofs.script.run_body.Goals as goal

pub returns-clause-refines : goal.returns-clause-refines
returns-clause-refines c =
    IfOk-weaker _ _ _ (λ a refines. runs_body c.args.state.now _ _ c.args.function.now c.args.here _ _ _
    c.in_ok-push.ensures c.in_ok-push-2.ensures refines) c.begin_statements.ensures.refines
