use Rattle.std.proofs.Common.{sym, ◌∙◌}
use Rattle.std.proofs.lemmas.Result.{IfOk-weaker}
use Rattle.jl_function.proofs.Constructions.{begins_construction}
use Rattle.jl_function.proofs.script.construct_if_known.Goals as goal

pub returns-clause-refines : goal.returns-clause-refines
returns-clause-refines c =
    IfOk-weaker _ _ _ (λ a refines. begins_construction c.args.state.now _ c.args.number c.args.env c.args.call _ _ _
    (sym c.is_known.ensures ∙ c.if-not-is_known.false) c.in_ok-name.ensures
    (rw c.in_ok-call.ensures at c.in_ok-push_value.ensures.waits) refines) c.get.ensures.refines
