use Rattle.std.proofs.Common.{refl}
use Rattle.std.proofs.lemmas.Result.{IfOk-weaker}
use Rattle.jl_state.specs.declared.act.Act.TheVariants as act
use Rattle.jl_lib_array.proofs.Exchanged.{reverses_end, reverses_spent, reverses_take}
use Rattle.jl_lib_array.proofs.reversing.reverse_turn.Goals as goal

pub returns-then-reversing-eq0-clause-refines : goal.returns-then-reversing-eq0-clause-refines
returns-then-reversing-eq0-clause-refines c =
    reverses_end _ c.args.state.now act.Spent c.args.reversing c.if-reversing-eq0.true

pub returns-then-not-spend-clause-refines : goal.returns-then-not-spend-clause-refines
returns-then-not-spend-clause-refines c =
    reverses_spent _ _ act.Spent c.args.reversing c.if-reversing-eq0.false (c.if-not-spend.ensures.same refl)
    (c.if-not-spend.ensures.ran_out refl)

pub returns-clause-refines : goal.returns-clause-refines
returns-clause-refines c =
    IfOk-weaker _ _ _ (λ a refines. reverses_take _ _ _ c.args.reversing _ c.if-reversing-eq0.false
    (c.if-not-spend.ensures.took refl) refines) c.get_for.ensures.refines
