use Rattle.std.proofs.Common.{refl, sym, ◌∙◌}
use Rattle.std.proofs.lemmas.Result.{IfOk-weaker}
use Rattle.jl_progress.specs.Arrays.{join_next}
use Rattle.jl_lib_array.proofs.Joined.{next_converts, next_nothing}
use Rattle.jl_lib_array.proofs.joining.step_join_element.Goals as goal

pub returns-then-is_nothing-clause-refines : goal.returns-then-is_nothing-clause-refines
returns-then-is_nothing-clause-refines c =
    IfOk-weaker _ _ _ (λ a refines. next_nothing _ _ _ c.args.v (join_next c.args.joining c.args.line) _
    (sym c.is_nothing.ensures ∙ c.if-is_nothing.true) refl refines) c.join_next.ensures.refines

pub returns-clause-refines : goal.returns-clause-refines
returns-clause-refines c =
    IfOk-weaker _ _ _ (λ a refines. next_converts _ _ _ c.args.v (join_next c.args.joining c.args.line)
    (sym c.is_nothing.ensures ∙ c.if-is_nothing.false) refines) c.wait_for_string.ensures.refines
