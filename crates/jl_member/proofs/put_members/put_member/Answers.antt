use Rattle.std.proofs.lemmas.Result.{IfOk-weaker}
use Rattle.jl_member.proofs.Puts.{puts_quietly}
use Rattle.jl_member.proofs.put_members.put_member.Goals as goal

pub returns-clause-refines : goal.returns-clause-refines
returns-clause-refines c =
    IfOk-weaker _ _ _ (λ a refines. puts_quietly c.args.state.now c.args.emits c.args.id.0 c.args.strict c.args.base
    c.args.name c.args.v c.args.gives _ _ c.if-emits.false refines) c.put.ensures.refines
