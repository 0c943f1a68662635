use Rattle.std.proofs.Common.{sym, ◌∙◌}
use Rattle.std.proofs.lemmas.Result.{IfOk-weaker}
use Rattle.jl_lib_text.proofs.Arguments.{end_missing, end_waits}
use Rattle.jl_lib_text.proofs.cutting.convert_end.Goals as goal

pub returns-then-is_undefined-clause-refines : goal.returns-then-is_undefined-clause-refines
returns-then-is_undefined-clause-refines c =
    IfOk-weaker _ _ _ (λ a refines. end_missing _ _ _ c.args.units c.args.cut c.args.start _ c.args.end
    (sym c.is_undefined.ensures ∙ c.if-is_undefined.true) c.length_of-length.ensures (refines c.args.state.now))
    c.give_cut.ensures.refines

pub returns-clause-refines : goal.returns-clause-refines
returns-clause-refines c =
    IfOk-weaker _ _ _ (λ a refines. end_waits _ _ _ c.args.units c.args.cut c.args.start c.args.end
    (sym c.is_undefined.ensures ∙ c.if-is_undefined.false) refines) c.wait_for_number.ensures.refines
