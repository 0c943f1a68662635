use Rattle.std.proofs.lemmas.Result.{IfOk-weaker}
use Rattle.jl_state.specs.Words.{context_of}
use Rattle.jl_member.proofs.MemberUpdates.{updates_so}
use Rattle.jl_member.proofs.updated_members.update_expression.Goals as goal

pub returns-clause-refines : goal.returns-clause-refines
returns-clause-refines c =
    IfOk-weaker _ _ _ (λ a refines. updates_so c.args.state.now (context_of c.args.state.now.calls
    (record { env = 0; strict = c.args.strict })) _ _ c.args.up c.args.prefix c.args.base c.args.key _ _
    c.by_script-noted.ensures.performs c.by_script-noted.ensures.first refines) c.update_member.ensures.refines
