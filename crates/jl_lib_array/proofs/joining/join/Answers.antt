use Rattle.std.proofs.Common.{sym, ◌∙◌}
use Rattle.std.proofs.lemmas.Result.{IfOk-weaker}
use Rattle.jl_lib_array.proofs.Joined.{joins_by, joins_by_comma}
use Rattle.jl_lib_array.proofs.joining.join.Goals as goal

pub returns-then-is_undefined-clause-refines : goal.returns-then-is_undefined-clause-refines
returns-then-is_undefined-clause-refines c =
    IfOk-weaker _ _ _ (λ a refines. joins_by_comma c.args.state.now _ _ c.args.object c.args.args.now c.args.length _
    c.in_ok-separator.ensures c.in_ok-comma.comma (sym c.is_undefined.ensures ∙ c.if-is_undefined.true)
    c.in_ok-comma.ensures refines) c.join_elements.ensures.refines

pub returns-clause-refines : goal.returns-clause-refines
returns-clause-refines c =
    IfOk-weaker _ _ _ (λ a refines. joins_by c.args.state.now _ _ c.args.object c.args.args.now c.args.length _
    c.in_ok-separator.ensures (sym c.is_undefined.ensures ∙ c.if-is_undefined.false) refines)
    c.wait_for_string.ensures.refines
