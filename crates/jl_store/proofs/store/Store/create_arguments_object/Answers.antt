use Rattle.std.proofs.Common.{◌∙◌, ap, false, length, refl, true}
use Rattle.std.specs.Prelude.{codes, Some}
use Rattle.jl_value.specs.declared.object.Class.TheVariants as class
use Rattle.jl_heap.specs.Define.{length_name}
use Rattle.jl_heap.specs.declared.property.Prop.TheVariants.{Plain}
use Rattle.jl_meaning.specs.ArgumentsObject.{create_arguments_object}
use Rattle.jl_meaning.specs.Changes.{NewObject}
use Rattle.jl_meaning.specs.Intrinsics.{object_prototype}
use Rattle.jl_store.specs.Changes.{after}
use Rattle.jl_store.proofs.Chains.{comes_after}
use Rattle.jl_store.proofs.Continuations.{arguments_alone}
use Rattle.jl_store.proofs.Fresh.{is_free, names_added, names_new}
use Rattle.jl_store.proofs.IndexNames.{lacks_word}
use Rattle.jl_store.proofs.Steps.{comes_added, comes_new, comes_to}
use Rattle.jl_store.proofs.store.Store.create_arguments_object.Goals as goal

pub add_property-requires : goal.add_property-requires
add_property-requires c =
    is_free _ refl (names_new _ _ _ _ _ _ c.in_ok-id.ensures.next c.in_ok-id.ensures.made refl) refl

pub add_elements-requires : goal.add_elements-requires
unfolding length_name
add_elements-requires c =
    names_added _ _ _ c.in_ok-length.ensures c.in_ok-add_property.ensures.made
    (names_new _ _ _ _ _ _ c.in_ok-id.ensures.next c.in_ok-id.ensures.made refl)

pub add_callee-requires-clause-callee : goal.add_callee-requires-clause-callee
unfolding length_name
add_callee-requires-clause-callee c =
    is_free _ refl c.in_ok-add_elements.ensures.names (lacks_word (length c.args.args.now) (codes "callee") refl refl)

pub add_callee-requires-clause-caller : goal.add_callee-requires-clause-caller
unfolding length_name
add_callee-requires-clause-caller c =
    is_free _ refl c.in_ok-add_elements.ensures.names (lacks_word (length c.args.args.now) (codes "caller") refl refl)

pub returns-clause-made : goal.returns-clause-made
unfolding create_arguments_object length_name
returns-clause-made c =
    comes_new _ _ _ c.in_ok-id.id (arguments_alone c.args.strict c.args.callee c.args.args.now) c.in_ok-id.ensures.next
    (c.in_ok-id.ensures.made
    ∙ ap (λ i. after (NewObject class.Arguments (Some object_prototype) i) c.args.self.now) c.in_ok-mapping.ensures)
    (comes_added c.in_ok-id.id c.in_ok-length.ensures
    (c.data.ensures ∙ ap (λ v. Plain v true false true) c.in_ok-given.ensures) c.in_ok-add_property.ensures.made
    (comes_after c.in_ok-add_elements.ensures.made (comes_after c.in_ok-add_callee.ensures.made comes_to)))
