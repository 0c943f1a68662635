use Rattle.std.proofs.Common.{sym, ◌∙◌}
use Rattle.std.proofs.lemmas.Result.{IfOk-weaker}
use Rattle.jl_lib_object.proofs.Fields.{one_kind, one_kind_is, two_kinds}
use Rattle.jl_lib_object.proofs.Ranks.{falls_thrown}
use Rattle.jl_lib_object.proofs.descriptors.take_change.Goals as goal

pub returns-then-is_both_kinds-clause-refines : goal.returns-then-is_both_kinds-clause-refines
returns-then-is_both_kinds-clause-refines c =
    IfOk-weaker _ _ _ (λ a refines. two_kinds _ c.args.change c.args.purpose _ _
    (sym c.is_both_kinds.ensures ∙ c.if-is_both_kinds.true) refines) c.throw_native.ensures.refines

pub returns-clause-refines : goal.returns-clause-refines
returns-clause-refines c =
    IfOk-weaker _ _ _ (λ a refines. one_kind _ c.args.change c.args.purpose _ _
    (sym c.is_both_kinds.ensures ∙ c.if-is_both_kinds.false) refines) c.use_change.ensures.refines

pub use_change-requires : goal.use_change-requires
use_change-requires c =
    one_kind_is c.args.change (sym c.is_both_kinds.ensures ∙ c.if-is_both_kinds.false)

pub returns-then-is_both_kinds-clause-bounded : goal.returns-then-is_both_kinds-clause-bounded
returns-then-is_both_kinds-clause-bounded c =
    IfOk-weaker _ _ _ (λ a bounded. falls_thrown _ _ _ c.args.purpose bounded) c.throw_native.ensures.bounded
