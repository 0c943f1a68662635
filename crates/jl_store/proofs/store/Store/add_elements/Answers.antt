use Rattle.std.proofs.Common.{◌∙◌, add-one, ap, subst, sym, true}
use Rattle.jl_heap.specs.declared.property.Prop.TheVariants.{Plain}
use Rattle.jl_store.specs.Changes.{HasNames}
use Rattle.jl_store.specs.inner.Arguments.{names_with}
use Rattle.jl_store.proofs.Fresh.{is_free, names_added}
use Rattle.jl_store.proofs.IndexNames.{lacks_next}
use Rattle.jl_store.proofs.Loops.{element_done}
use Rattle.jl_store.proofs.store.Store.add_elements.Goals as goal

pub add_property-requires : goal.add_property-requires
add_property-requires c =
    is_free _ c.in_ok-name.ensures c.loop-index.invariant.names (lacks_next c.loop-index.index)

pub loop-index-preserved : goal.loop-index-preserved
loop-index-preserved c = record {
  left =
      element_done c.args.id c.loop-index.index c.args.args.now c.index-args-index.result _ _
      c.loop-index.invariant.left
      c.loop-index-test.true c.index-args-index.is c.in_ok-name.ensures
      (c.data.ensures ∙ ap (λ v. Plain v true true true) c.in_ok-value.ensures) c.in_ok-add_property.ensures.made;
  names =
      subst (λ k. HasNames c.add_property.new.self c.args.id (names_with k)) (sym (add-one c.loop-index.index))
      (names_added _ _ _ c.in_ok-name.ensures c.in_ok-add_property.ensures.made c.loop-index.invariant.names);
  rest = c.in_ok-add_property.ensures.rest ∙ c.loop-index.invariant.rest;
}
