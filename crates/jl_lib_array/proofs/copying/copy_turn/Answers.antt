use Rattle.std.proofs.Common.{refl}
use Rattle.std.proofs.lemmas.Result.{IfOk-weaker}
use Rattle.jl_lib_array.proofs.Copied.{copies_end, copies_spent, copies_take}
use Rattle.jl_lib_array.proofs.copying.copy_turn.Goals as goal

pub returns-then-copying-eq0-clause-refines : goal.returns-then-copying-eq0-clause-refines
returns-then-copying-eq0-clause-refines c =
    IfOk-weaker _ _ _ (λ a refines. copies_end c.args.state.now _ _ c.args.copying c.args.next c.if-copying-eq0.true
    refines) c.after_copying.ensures.refines

pub returns-then-not-spend-clause-refines : goal.returns-then-not-spend-clause-refines
returns-then-not-spend-clause-refines c =
    copies_spent c.args.state.now _ c.args.copying c.args.next c.if-copying-eq0.false (c.if-not-spend.ensures.same refl)
    (c.if-not-spend.ensures.ran_out refl)

pub returns-clause-refines : goal.returns-clause-refines
returns-clause-refines c =
    IfOk-weaker _ _ _ (λ a refines. copies_take c.args.state.now _ _ c.args.copying c.args.next _ c.if-copying-eq0.false
    (c.if-not-spend.ensures.took refl) refines) c.copy_element.ensures.refines
