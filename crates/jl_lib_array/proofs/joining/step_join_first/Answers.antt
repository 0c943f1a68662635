use Rattle.std.proofs.Common.{sym, ◌∙◌}
use Rattle.std.proofs.lemmas.Result.{IfOk-weaker}
use Rattle.jl_progress.specs.Arrays.{join_first}
use Rattle.jl_lib_array.proofs.Joined.{next_converts, next_nothing}
use Rattle.jl_lib_array.proofs.joining.step_join_first.Goals as goal

pub returns-then-is_nothing-clause-refines : goal.returns-then-is_nothing-clause-refines
returns-then-is_nothing-clause-refines c =
    IfOk-weaker _ _ _ (λ a refines. next_nothing _ _ _ c.args.v (join_first c.args.joining) _
    (sym c.is_nothing.ensures ∙ c.if-is_nothing.true) c.in_ok-first.ensures refines) c.join_first.ensures.refines

pub returns-clause-refines : goal.returns-clause-refines
returns-clause-refines c =
    IfOk-weaker _ _ _ (λ a refines. next_converts _ _ _ c.args.v (join_first c.args.joining)
    (sym c.is_nothing.ensures ∙ c.if-is_nothing.false) refines) c.wait_for_string.ensures.refines
