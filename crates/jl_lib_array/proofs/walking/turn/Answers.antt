use Rattle.std.proofs.Common.{refl, sym, ◌∙◌}
use Rattle.std.proofs.lemmas.Result.{IfOk-weaker}
use Rattle.jl_progress.specs.ArrayCalls.{walk_of}
use Rattle.jl_lib_array.proofs.TaskTurns.{task_over, turn_begins, turn_spent}
use Rattle.jl_lib_array.proofs.walking.turn.Goals as goal

pub returns-in_default-clause-refines : goal.returns-in_default-clause-refines
returns-in_default-clause-refines c =
    IfOk-weaker _ _ _ (λ a refines. task_over _ (walk_of c.args.walk) _ _ c.args.task _ c.args.at c.direction_of.ensures
    (sym c.index_at.ensures ∙ c.in_default.is) refines) c.end_task.ensures.refines

pub returns-then-not-spend-clause-refines : goal.returns-then-not-spend-clause-refines
returns-then-not-spend-clause-refines c =
    turn_spent _ _ (walk_of c.args.walk) c.args.task _ c.args.at _ c.direction_of.ensures
    (sym c.index_at.ensures ∙ c.in-Some.is) (c.if-not-spend.ensures.same refl) (c.if-not-spend.ensures.ran_out refl)

pub returns-clause-refines : goal.returns-clause-refines
returns-clause-refines c =
    IfOk-weaker _ _ _ (λ a refines. turn_begins _ (walk_of c.args.walk) _ _ c.args.task _ c.args.at _ _
    c.direction_of.ensures (sym c.index_at.ensures ∙ c.in-Some.is) (c.if-not-spend.ensures.took refl) refines)
    c.visit.ensures.refines
