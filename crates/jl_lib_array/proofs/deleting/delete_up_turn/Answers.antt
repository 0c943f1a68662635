use Rattle.std.proofs.Common.{refl}
use Rattle.std.proofs.lemmas.Result.{IfOk-weaker}
use Rattle.jl_state.specs.declared.act.Act.TheVariants as act
use Rattle.jl_lib_array.proofs.Deleted.{deletes_up_end, deletes_up_spent, deletes_up_take}
use Rattle.jl_lib_array.proofs.deleting.delete_up_turn.Goals as goal

pub returns-then-left-eq0-clause-refines : goal.returns-then-left-eq0-clause-refines
returns-then-left-eq0-clause-refines c =
    deletes_up_end _ c.args.state.now act.Spent c.args.object c.args.index c.args.left c.if-left-eq0.true

pub returns-then-not-spend-clause-refines : goal.returns-then-not-spend-clause-refines
returns-then-not-spend-clause-refines c =
    deletes_up_spent _ _ act.Spent c.args.object c.args.index c.args.left c.if-left-eq0.false
    (c.if-not-spend.ensures.same refl) (c.if-not-spend.ensures.ran_out refl)

pub returns-clause-refines : goal.returns-clause-refines
returns-clause-refines c =
    IfOk-weaker _ _ _ (λ a refines. deletes_up_take _ _ _ c.args.object c.args.index c.args.left _ _ c.if-left-eq0.false
    (c.if-not-spend.ensures.took refl) c.in_ok-after.ensures refines) c.delete_then.ensures.refines
