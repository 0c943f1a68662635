use Rattle.std.proofs.Common.{refl}
use Rattle.std.proofs.lemmas.Result.{IfOk-weaker}
use Rattle.jl_lib_array.proofs.Slices.{copied, copy_begins, copy_spent}
use Rattle.jl_lib_array.proofs.slicing.copy_turn.Goals as goal

pub returns-then-count-at-clause-refines : goal.returns-then-count-at-clause-refines
returns-then-count-at-clause-refines c =
    copied _ c.args.object c.args.start c.args.array c.args.count c.args.at c.if-count-at.true

pub returns-then-not-spend-clause-refines : goal.returns-then-not-spend-clause-refines
returns-then-not-spend-clause-refines c =
    copy_spent _ _ c.args.object c.args.start c.args.array c.args.count c.args.at c.if-count-at.false
    (c.if-not-spend.ensures.same refl) (c.if-not-spend.ensures.ran_out refl)

pub returns-clause-refines : goal.returns-clause-refines
returns-clause-refines c =
    IfOk-weaker _ _ _ (λ a refines. copy_begins _ _ c.args.object c.args.start c.args.array c.args.count c.args.at _ _
    c.if-count-at.false (c.if-not-spend.ensures.took refl) refines) c.copy_element.ensures.refines
