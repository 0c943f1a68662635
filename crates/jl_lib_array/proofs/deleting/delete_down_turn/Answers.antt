use Rattle.std.proofs.Common.{refl}
use Rattle.std.proofs.lemmas.Result.{IfOk-weaker}
use Rattle.jl_state.specs.declared.act.Act.TheVariants as act
use Rattle.jl_lib_array.proofs.Deleted.{deletes_down_end, deletes_down_spent, deletes_down_take}
use Rattle.jl_lib_array.proofs.deleting.delete_down_turn.Goals as goal

pub returns-then-left-eq0-clause-refines : goal.returns-then-left-eq0-clause-refines
returns-then-left-eq0-clause-refines c =
    IfOk-weaker _ _ _ (λ a refines. deletes_down_end _ _ _ c.args.splicing c.args.left c.if-left-eq0.true refines)
    c.put_items.ensures.refines

pub returns-then-not-spend-clause-refines : goal.returns-then-not-spend-clause-refines
returns-then-not-spend-clause-refines c =
    deletes_down_spent _ _ act.Spent c.args.splicing c.args.left c.if-left-eq0.false
    (c.if-not-spend.ensures.same refl) (c.if-not-spend.ensures.ran_out refl)

pub returns-clause-refines : goal.returns-clause-refines
returns-clause-refines c =
    IfOk-weaker _ _ _ (λ a refines. deletes_down_take _ _ _ c.args.splicing c.args.left _ _ _ c.if-left-eq0.false
    (c.if-not-spend.ensures.took refl) c.in_ok-end.ensures c.in_ok-index.ensures refines) c.delete_then.ensures.refines
