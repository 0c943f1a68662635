use Rattle.std.proofs.Common.{sym, ◌∙◌}
use Rattle.std.proofs.lemmas.Result.{IfOk-weaker}
use Rattle.jl_lib_misc.proofs.Messages.{name_missing, name_waits}
use Rattle.jl_lib_misc.proofs.errors.resume_name.Goals as goal

pub returns-then-is_undefined-clause-refines : goal.returns-then-is_undefined-clause-refines
returns-then-is_undefined-clause-refines c =
    IfOk-weaker _ _ _ (λ a refines. name_missing _ c.args.object c.args.v _ _ _
    (sym c.is_undefined.ensures ∙ c.if-is_undefined.true) c.in_ok-name.ensures refines) c.get_message.ensures.refines

pub returns-clause-refines : goal.returns-clause-refines
returns-clause-refines c =
    IfOk-weaker _ _ _ (λ a refines. name_waits _ c.args.object c.args.v _ _
    (sym c.is_undefined.ensures ∙ c.if-is_undefined.false) refines) c.wait_for_string.ensures.refines
