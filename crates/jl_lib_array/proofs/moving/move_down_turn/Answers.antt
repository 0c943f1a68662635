use Rattle.std.proofs.Common.{refl}
use Rattle.std.proofs.lemmas.Result.{IfOk-weaker}
use Rattle.jl_state.specs.declared.act.Act.TheVariants as act
use Rattle.jl_lib_array.proofs.Moved.{moves_down_end, moves_down_spent, moves_down_take}
use Rattle.jl_lib_array.proofs.moving.move_down_turn.Goals as goal

pub returns-then-moving-eq0-clause-refines : goal.returns-then-moving-eq0-clause-refines
returns-then-moving-eq0-clause-refines c =
    IfOk-weaker _ _ _ (λ a refines. moves_down_end _ _ _ c.args.moving c.args.next c.if-moving-eq0.true refines)
    c.after_moving.ensures.refines

pub returns-then-not-spend-clause-refines : goal.returns-then-not-spend-clause-refines
returns-then-not-spend-clause-refines c =
    moves_down_spent _ _ act.Spent c.args.moving c.args.next c.if-moving-eq0.false
    (c.if-not-spend.ensures.same refl) (c.if-not-spend.ensures.ran_out refl)

pub returns-clause-refines : goal.returns-clause-refines
returns-clause-refines c =
    IfOk-weaker _ _ _ (λ a refines. moves_down_take _ _ _ c.args.moving c.args.next _ c.if-moving-eq0.false
    (c.if-not-spend.ensures.took refl) refines) c.move_one_down.ensures.refines
