use Rattle.std.proofs.Common.{sym, ◌∙◌}
use Rattle.std.proofs.lemmas.Result.{IfOk-weaker}
use Rattle.jl_lib_misc.proofs.Arguments.{radix_missing, radix_waits}
use Rattle.jl_lib_misc.proofs.numbers.convert_radix.Goals as goal

pub returns-then-is_undefined-clause-refines : goal.returns-then-is_undefined-clause-refines
returns-then-is_undefined-clause-refines c =
    IfOk-weaker _ _ _ (λ a refines. radix_missing _ _ _ c.args.number c.args.radix
    (sym c.is_undefined.ensures ∙ c.if-is_undefined.true) refines) c.give_in_radix.ensures.refines

pub returns-clause-refines : goal.returns-clause-refines
returns-clause-refines c =
    IfOk-weaker _ _ _ (λ a refines. radix_waits _ _ _ c.args.number c.args.radix
    (sym c.is_undefined.ensures ∙ c.if-is_undefined.false) refines) c.wait_for_number.ensures.refines
