use Rattle.std.proofs.lemmas.Result.{IfOk-weaker}
use Rattle.jl_member.proofs.Operands.{assigns_plainly}
use Rattle.jl_member.proofs.assigned_members.assign_by_key.Goals as goal

pub returns-in-None-clause-refines : goal.returns-in-None-clause-refines
returns-in-None-clause-refines c =
    IfOk-weaker _ _ _ (λ a refines. assigns_plainly c.args.state.now c.args.value c.args.value.now.value c.args.here
    c.args.base _ _ c.args.name c.args.op c.in-None.is refines) c.put_by_key.ensures.refines
