use Rattle.std.proofs.Common.{sym, ◌∙◌}
use Rattle.std.proofs.lemmas.Result.{IfOk-weaker}
use Rattle.jl_lib_text.proofs.Splits.{separator_missing, separator_waits}
use Rattle.jl_lib_text.proofs.splitting.convert_separator.Goals as goal

pub returns-then-is_undefined-clause-refines : goal.returns-then-is_undefined-clause-refines
returns-then-is_undefined-clause-refines c =
    IfOk-weaker _ _ _ (λ a refines. separator_missing _ _ _ c.args.units c.args.array c.args.separator c.args.limit _
    (sym c.is_undefined.ensures ∙ c.if-is_undefined.true) (c.items.ensures ∙ c.in_ok-piece.ensures) refines)
    c.fill_with_pieces.ensures.refines

pub returns-clause-refines : goal.returns-clause-refines
returns-clause-refines c =
    IfOk-weaker _ _ _ (λ a refines. separator_waits _ _ _ c.args.units c.args.array c.args.separator c.args.limit
    (sym c.is_undefined.ensures ∙ c.if-is_undefined.false) refines) c.wait_for_string.ensures.refines
