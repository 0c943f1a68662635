use Rattle.std.proofs.lemmas.Result.{IfOk-weaker}
use Rattle.jl_builtin.proofs.FoundItems.{none_from, some_from}
use Rattle.jl_lib_object.proofs.Definitions.{defined_all, defined_next}
use Rattle.jl_lib_object.proofs.Ranks.{falls_next}
use Rattle.jl_lib_object.proofs.defining.define_from.Goals as goal

pub returns-in-None-clause-refines : goal.returns-in-None-clause-refines
returns-in-None-clause-refines c =
    defined_all _ _ _ (none_from c.args.from _ c.args.changes _ c.items.ensures c.in_ok-change_from.ensures
    c.in-None.is)

pub returns-clause-refines : goal.returns-clause-refines
returns-clause-refines c =
    IfOk-weaker _ _ _ (λ a refines. defined_next c.args.state.now c.args.object _ _ c.args.changes c.in-Some.next _ _
    (some_from c.args.from _ _ c.args.changes _ _ c.items.ensures c.in_ok-change_from.ensures c.in-Some.is) refines)
    c.define_one.ensures.refines

pub returns-clause-bounded : goal.returns-clause-bounded
returns-clause-bounded c =
    IfOk-weaker _ _ _ (λ a bounded. falls_next _ _ _ _ _ _ (some_from c.args.from _ _ c.args.changes _ _ c.items.ensures
    c.in_ok-change_from.ensures c.in-Some.is) bounded) c.define_one.ensures.bounded
