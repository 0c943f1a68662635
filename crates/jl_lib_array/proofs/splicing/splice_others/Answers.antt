use Rattle.std.proofs.lemmas.Result.{IfOk-weaker}
use Rattle.jl_lib_array.proofs.Moved.{splice_closes, splice_opens, splice_stays}
use Rattle.jl_lib_array.proofs.splicing.splice_others.Goals as goal

pub returns-then-added-splicing-clause-refines : goal.returns-then-added-splicing-clause-refines
returns-then-added-splicing-clause-refines c =
    IfOk-weaker _ _ _ (λ a refines. splice_closes _ _ _ c.args.splicing _ c.len-added.ensures c.if-added-splicing.true
    refines) c.move_closer.ensures.refines

pub returns-then-splicing-added-clause-refines : goal.returns-then-splicing-added-clause-refines
returns-then-splicing-added-clause-refines c =
    IfOk-weaker _ _ _ (λ a refines. splice_opens _ _ _ c.args.splicing _ c.len-added.ensures c.if-added-splicing.false
    c.if-splicing-added.true refines) c.move_apart.ensures.refines

pub returns-clause-refines : goal.returns-clause-refines
returns-clause-refines c =
    IfOk-weaker _ _ _ (λ a refines. splice_stays _ _ _ c.args.splicing _ c.len-added.ensures c.if-added-splicing.false
    c.if-splicing-added.false refines) c.put_items.ensures.refines
