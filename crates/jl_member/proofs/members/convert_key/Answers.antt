use Rattle.std.proofs.lemmas.Result.{IfOk-weaker}
use Rattle.jl_member.proofs.Keys.{converts_key}
use Rattle.jl_member.proofs.members.convert_key.Goals as goal

pub returns-clause-refines : goal.returns-clause-refines
returns-clause-refines c =
    IfOk-weaker _ _ _ (λ a refines. converts_key c.args.state.now _ _ _ c.args.purpose c.args.key _
    c.in_ok-purpose.ensures c.in_ok-push_value.ensures.waits refines) c.to_primitive.ensures.refines
