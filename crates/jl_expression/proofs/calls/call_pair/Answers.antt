use Rattle.std.proofs.Common.{refl}
use Rattle.std.proofs.lemmas.Result.{IfOk-weaker}
use Rattle.std.specs.Option.{option_map}
use Rattle.jl_ast.specs.View.{view_expressions}
use Rattle.jl_hook.specs.HookForms.{opener_call_seen}
use Rattle.jl_state.specs.Trees.{plain_forest}
use Rattle.jl_expression.proofs.Pairs.{spends_no_step, spends_step}
use Rattle.jl_expression.proofs.calls.call_pair.Goals as goal

pub returns-then-not-spend-clause-refines : goal.returns-then-not-spend-clause-refines
returns-then-not-spend-clause-refines c =
    spends_no_step _ _ _ _ _ _ _ (c.if-not-spend.ensures.ran_out refl) (c.if-not-spend.ensures.same refl)

pub returns-clause-refines : goal.returns-clause-refines
returns-clause-refines c =
    IfOk-weaker _ _ _ (λ a refines. spends_step (option_map opener_call_seen c.args.call)
    (plain_forest (view_expressions c.args.first.now)) (plain_forest (view_expressions c.args.second.now)) c.args.here
    _ _ _ _ _ (c.if-not-spend.ensures.took refl)
    (c.if-not-spend.ensures.left refl) refines) c.begin_pair.ensures.refines
