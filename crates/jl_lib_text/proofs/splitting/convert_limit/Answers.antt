use Rattle.std.proofs.Common.{sym, ◌∙◌}
use Rattle.std.proofs.lemmas.Result.{IfOk-weaker}
use Rattle.jl_lib_text.proofs.Splits.{limit_missing, limit_waits}
use Rattle.jl_lib_text.proofs.splitting.convert_limit.Goals as goal

pub returns-then-is_undefined-clause-refines : goal.returns-then-is_undefined-clause-refines
returns-then-is_undefined-clause-refines c =
    IfOk-weaker _ _ _ (λ a refines. limit_missing _ _ _ c.args.units c.args.array c.args.separator c.args.limit
    (sym c.is_undefined.ensures ∙ c.if-is_undefined.true) refines) c.convert_separator.ensures.refines

pub returns-clause-refines : goal.returns-clause-refines
returns-clause-refines c =
    IfOk-weaker _ _ _ (λ a refines. limit_waits _ _ _ c.args.units c.args.array c.args.separator c.args.limit
    (sym c.is_undefined.ensures ∙ c.if-is_undefined.false) refines) c.wait_for_number.ensures.refines
