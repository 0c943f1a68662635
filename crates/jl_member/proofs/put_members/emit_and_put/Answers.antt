use Rattle.std.proofs.lemmas.Result.{IfOk-weaker}
use Rattle.jl_member.proofs.Puts.{emits_and_puts}
use Rattle.jl_member.proofs.put_members.emit_and_put.Goals as goal

pub returns-clause-refines : goal.returns-clause-refines
returns-clause-refines c =
    IfOk-weaker _ _ _ (λ a refines. emits_and_puts c.args.state.now c.args.id _ c.args.strict c.args.base c.args.name
    c.args.v c.args.gives _ _ (cc (
      c.in_ok-seen.ensures,
      c.in_ok-share.ensures,
      c.in_ok-seen-2.ensures,
      c.found_on.ensures,
    )) refines) c.emit_for.ensures.refines
