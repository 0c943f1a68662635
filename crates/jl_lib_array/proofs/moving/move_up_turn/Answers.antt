use Rattle.std.proofs.Common.{refl}
use Rattle.std.proofs.lemmas.Result.{IfOk-weaker}
use Rattle.jl_state.specs.declared.act.Act.TheVariants as act
use Rattle.jl_lib_array.proofs.Moved.{moves_up_end, moves_up_spent, moves_up_take}
use Rattle.jl_lib_array.proofs.moving.move_up_turn.Goals as goal

pub returns-then-moving-eq0-clause-refines : goal.returns-then-moving-eq0-clause-refines
returns-then-moving-eq0-clause-refines c =
    IfOk-weaker _ _ _ (λ a refines. moves_up_end _ _ _ c.args.moving c.args.next c.args.k c.if-moving-eq0.true refines)
    c.after_moving.ensures.refines

pub returns-then-not-spend-clause-refines : goal.returns-then-not-spend-clause-refines
returns-then-not-spend-clause-refines c =
    moves_up_spent _ _ act.Spent c.args.moving c.args.next c.args.k c.if-moving-eq0.false
    (c.if-not-spend.ensures.same refl) (c.if-not-spend.ensures.ran_out refl)

pub returns-clause-refines : goal.returns-clause-refines
returns-clause-refines c =
    IfOk-weaker _ _ _ (λ a refines. moves_up_take _ _ _ c.args.moving c.args.next _ c.args.k c.if-moving-eq0.false
    (c.if-not-spend.ensures.took refl) refines) c.move_one_up.ensures.refines
