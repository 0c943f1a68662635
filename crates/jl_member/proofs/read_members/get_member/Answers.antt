use Rattle.std.proofs.lemmas.Result.{IfOk-weaker}
use Rattle.jl_member.proofs.Gets.{gets_quietly}
use Rattle.jl_member.proofs.read_members.get_member.Goals as goal

pub returns-clause-refines : goal.returns-clause-refines
returns-clause-refines c =
    IfOk-weaker _ _ _ (λ a refines. gets_quietly c.args.state.now c.args.noted.emits c.args.noted.id.id c.args.base
    c.args.name _ _ c.if-noted.false refines) c.get.ensures.refines
