use Rattle.std.proofs.Common.{refl}
use Rattle.std.proofs.lemmas.Result.{IfOk-weaker}
use Rattle.jl_state.specs.declared.act.Act.TheVariants as act
use Rattle.jl_lib_array.proofs.Read.{reads_end, reads_spent, reads_take}
use Rattle.jl_lib_array.proofs.sorting.sort_turn.Goals as goal

pub returns-then-reading-eq0-clause-refines : goal.returns-then-reading-eq0-clause-refines
returns-then-reading-eq0-clause-refines c =
    IfOk-weaker _ _ _ (λ a refines. reads_end _ _ _ c.args.reading c.args.read c.if-reading-eq0.true refines)
    c.put_sorted.ensures.refines

pub returns-then-not-spend-clause-refines : goal.returns-then-not-spend-clause-refines
returns-then-not-spend-clause-refines c =
    reads_spent _ _ act.Spent c.args.reading c.args.read c.if-reading-eq0.false (c.if-not-spend.ensures.same refl)
    (c.if-not-spend.ensures.ran_out refl)

pub returns-clause-refines : goal.returns-clause-refines
returns-clause-refines c =
    IfOk-weaker _ _ _ (λ a refines. reads_take _ _ _ c.args.reading c.args.read _ _ c.if-reading-eq0.false
    (c.if-not-spend.ensures.took refl) c.in_ok-k.ensures refines) c.read_element.ensures.refines
