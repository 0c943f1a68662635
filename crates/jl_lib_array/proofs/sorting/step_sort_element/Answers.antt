use Rattle.std.proofs.Common.{sym}
use Rattle.std.proofs.lemmas.Result.{IfOk-weaker}
use Rattle.jl_lib_array.proofs.Read.{reads_string, reads_undefined}
use Rattle.jl_lib_array.proofs.sorting.step_sort_element.Goals as goal

pub returns-then-is_undefined-clause-refines : goal.returns-then-is_undefined-clause-refines
returns-then-is_undefined-clause-refines c =
    IfOk-weaker _ _ _ (λ a refines. reads_undefined _ _ _ c.args.reading c.args.read _ c.args.v
    (sym c.if-is_undefined.ensures) c.in_ok-push.ensures.ok refines) c.begin_turn.ensures.refines

pub returns-clause-refines : goal.returns-clause-refines
returns-clause-refines c =
    IfOk-weaker _ _ _ (λ a refines. reads_string _ _ _ c.args.reading c.args.read c.args.v _ c.in_ok-element.ensures
    (sym c.if-is_undefined.ensures) refines) c.wait_for_string.ensures.refines
