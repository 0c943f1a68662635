use Rattle.std.proofs.Common.{ap, ◌∙◌}
use Rattle.std.proofs.lemmas.Result.{IfOk-weaker}
use Rattle.std.specs.Option.{option_map}
use Rattle.jl_heap.specs.Objects.{object_at}
use Rattle.jl_meaning.specs.Properties.{can_put, get_property}
use Rattle.jl_store.specs.LookUps.{property_seen}
use Rattle.jl_state.specs.declared.algorithm_frame.AfterDefine.TheVariants.{Put}
use Rattle.jl_algorithm.specs.inner.PutPlans.{plan_put}
use Rattle.jl_algorithm.proofs.Puts.{puts_so}
use Rattle.jl_algorithm.proofs.putting.put_by_look_up.Goals as goal

pub returns-clause-refines : goal.returns-clause-refines
returns-clause-refines c =
    let store = c.args.state.now.store in
    let property = get_property store c.args.id.0 c.args.name.now in
    let extensible = (object_at store.heap c.args.id.0).extensible in
    IfOk-weaker _ _ _ (λ a refines.
    puts_so c.args.state.now c.args.id c.args.name.now c.args.v extensible c.can_put.result property
    c.plan_put-way.result (Put c.args.throwing c.args.gives) _ _
    (c.can_put.ensures
    ∙ ap (λ e. can_put e (option_map property_seen c.get_property-property.result)) c.is_extensible.ensures
    ∙ ap (λ p. can_put extensible p) c.get_property-property.ensures)
    (c.plan_put-way.ensures ∙ ap (λ p. plan_put c.can_put.result p) c.get_property-property.ensures) refines)
    c.put_by.ensures.refines
