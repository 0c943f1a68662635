use Rattle.std.proofs.Common.{◌∙◌, [], ◌∷◌, ap, false, refl}
use Rattle.std.specs.Prelude.{codes}
use Rattle.jl_heap.specs.Define.{length_name}
use Rattle.jl_heap.specs.declared.property.Prop.TheVariants.{Plain}
use Rattle.jl_scope.specs.Names.{arguments_name}
use Rattle.jl_meaning.specs.FunctionObjects.{create_function}
use Rattle.jl_store.specs.Changes.{HasNames}
use Rattle.jl_store.proofs.Fresh.{is_apart, is_free, names_added, names_beside_added, names_beside_new, names_new}
use Rattle.jl_store.proofs.Continuations.{function_alone, function_with_prototype}
use Rattle.jl_store.proofs.Chains.{comes_after}
use Rattle.jl_store.proofs.Steps.{comes_added, comes_new, comes_to}
use Rattle.jl_store.proofs.store.Store.create_function.Goals.{After-add_poison_if-arg-1}
use Rattle.jl_store.proofs.store.Store.create_function.Goals as goal

pub add_property-requires : goal.add_property-requires
add_property-requires c =
    is_free c.in_ok-length.length refl
    (names_new _ _ _ _ _ _ c.in_ok-f.ensures.next c.in_ok-f.ensures.made refl) refl

pub add_property-requires-2 : goal.add_property-requires-2
add_property-requires-2 c =
    is_free c.in_ok-constructor.constructor refl
    (names_new _ _ _ _ _ _ c.in_ok-proto.ensures.next c.in_ok-proto.ensures.made refl) refl

pub add_property-requires-3 : goal.add_property-requires-3
add_property-requires-3 c =
    let new = names_new _ _ _ _ _ _ c.in_ok-f.ensures.next c.in_ok-f.ensures.made refl in
    let with_length = names_added _ _ _ c.in_ok-length.ensures c.in_ok-add_property.ensures.made new in
    let beside = names_beside_new _ _ _ _ c.in_ok-proto.ensures.made refl with_length in
    let apart = is_apart with_length c.in_ok-proto.ensures.next in
    let beside_both = names_beside_added _ _ _ _ c.in_ok-add_property-2.ensures.made apart beside in
    is_free _ c.in_ok-prototype.ensures beside_both refl

all_names : (c : After-add_poison_if-arg-1)
    → HasNames c.add_property-3.new.self c.in_ok-f.f (codes "length" ∷ codes "prototype" ∷ [])
all_names c =
    let new = names_new _ _ _ _ _ _ c.in_ok-f.ensures.next c.in_ok-f.ensures.made refl in
    let with_length = names_added _ _ _ c.in_ok-length.ensures c.in_ok-add_property.ensures.made new in
    let beside = names_beside_new _ _ _ _ c.in_ok-proto.ensures.made refl with_length in
    let apart = is_apart with_length c.in_ok-proto.ensures.next in
    let beside_both = names_beside_added _ _ _ _ c.in_ok-add_property-2.ensures.made apart beside in
    names_added _ _ _ c.in_ok-prototype.ensures c.in_ok-add_property-3.ensures.made beside_both

pub add_poison_if-requires-clause-caller : goal.add_poison_if-requires-clause-caller
add_poison_if-requires-clause-caller c = is_free _ refl (all_names c) refl

pub add_poison_if-requires-clause-arguments : goal.add_poison_if-requires-clause-arguments
unfolding arguments_name
add_poison_if-requires-clause-arguments c = is_free _ refl (all_names c) refl

pub returns-clause-made : goal.returns-clause-made
unfolding create_function length_name
returns-clause-made c =
    comes_new _ _ _ c.in_ok-f.f (function_alone c.args.strict c.args.params) c.in_ok-f.ensures.next
    c.in_ok-f.ensures.made
    (comes_added c.in_ok-f.f c.in_ok-length.ensures (c.data.ensures
    ∙ ap (λ v. Plain v false false false) c.in_ok-params.ensures)
    c.in_ok-add_property.ensures.made
    (comes_new _ _ _ c.in_ok-proto.proto (function_with_prototype c.args.strict c.in_ok-f.f) c.in_ok-proto.ensures.next
    c.in_ok-proto.ensures.made
    (comes_added c.in_ok-proto.proto c.in_ok-constructor.ensures c.data-2.ensures c.in_ok-add_property-2.ensures.made
    (comes_added c.in_ok-f.f c.in_ok-prototype.ensures c.data-3.ensures c.in_ok-add_property-3.ensures.made
    (comes_after c.in_ok-add_poison_if.ensures.made comes_to)))))
