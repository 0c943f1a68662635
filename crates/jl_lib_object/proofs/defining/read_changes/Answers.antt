use Rattle.std.proofs.lemmas.Result.{IfOk-weaker}
use Rattle.jl_builtin.proofs.FoundItems.{none_from, some_from}
use Rattle.jl_lib_object.proofs.Definitions.{changes_end, changes_next}
use Rattle.jl_lib_object.proofs.defining.read_changes.Goals as goal

pub returns-in-None-clause-refines : goal.returns-in-None-clause-refines
returns-in-None-clause-refines c =
    IfOk-weaker _ _ _ (λ a refines. changes_end c.args.state.now c.args.object c.args.descriptors c.args.changes _ _ _
    (none_from c.args.from _ c.args.names _ c.items.ensures c.in_ok-name_from.ensures c.in-None.is) refines)
    c.define_from.ensures.refines

pub returns-clause-refines : goal.returns-clause-refines
returns-clause-refines c =
    IfOk-weaker _ _ _ (λ a refines. changes_next c.args.state.now c.args.object c.args.descriptors c.args.changes _ _
    c.args.names c.in-Some.next _ _
    (some_from c.args.from _ _ c.args.names _ _ c.items.ensures c.in_ok-name_from.ensures c.in-Some.is) refines)
    c.get_descriptor.ensures.refines
