use Rattle.std.proofs.lemmas.Result.{IfOk-weaker}
use Rattle.jl_builtin.proofs.FoundItems.{none_from, some_from}
use Rattle.jl_lib_object.proofs.Restrictions.{restricted_all, restricts_next}
use Rattle.jl_lib_object.proofs.integrity.restrict_from.Goals as goal

pub returns-in-None-clause-refines : goal.returns-in-None-clause-refines
returns-in-None-clause-refines c =
    restricted_all _ _ _ _ _ (none_from c.args.from _ c.args.names _ c.items.ensures c.in_ok-name_from.ensures
    c.in-None.is)
    c.prevent_extensions.ensures

pub returns-clause-refines : goal.returns-clause-refines
returns-clause-refines c =
    IfOk-weaker _ _ _ (λ a refines. restricts_next c.args.state.now c.args.integrity c.args.object _ _ _ _ _
    (some_from c.args.from _ _ c.args.names _ _ c.items.ensures c.in_ok-name_from.ensures c.in-Some.is) refines)
    c.restrict_one.ensures.refines
