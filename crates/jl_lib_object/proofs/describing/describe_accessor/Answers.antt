use Rattle.std.proofs.Common.{◌∙◌, ap, refl, true}
use Rattle.jl_heap.specs.declared.property.Prop.TheVariants.{Accessor, Plain}
use Rattle.jl_meaning.specs.Parts.{◌>>=◌}
use Rattle.jl_meaning.specs.builtins.Arguments.{give_object}
use Rattle.jl_meaning.specs.builtins.Descriptors.{add_fields, fields}
use Rattle.jl_store.proofs.Fresh.{is_free, names_added, names_new}
use Rattle.jl_store.proofs.Steps.{comes_added, comes_new, comes_to}
use Rattle.jl_lib_object.proofs.describing.describe_accessor.Goals as goal

pub add_property-requires : goal.add_property-requires
add_property-requires c =
    let new = names_new _ _ _ _ _ _ c.in_ok-id.ensures.next c.in_ok-id.ensures.made refl in
    is_free _ c.in_ok-first.ensures new refl

pub add_property-requires-2 : goal.add_property-requires-2
add_property-requires-2 c =
    let new = names_new _ _ _ _ _ _ c.in_ok-id.ensures.next c.in_ok-id.ensures.made refl in
    let with_first = names_added _ _ _ c.in_ok-first.ensures c.in_ok-add_property.ensures.made new in
    is_free _ c.in_ok-second.ensures with_first refl

pub add_property-requires-3 : goal.add_property-requires-3
add_property-requires-3 c =
    let new = names_new _ _ _ _ _ _ c.in_ok-id.ensures.next c.in_ok-id.ensures.made refl in
    let with_first = names_added _ _ _ c.in_ok-first.ensures c.in_ok-add_property.ensures.made new in
    let with_second = names_added _ _ _ c.in_ok-second.ensures c.in_ok-add_property-2.ensures.made with_first in
    is_free _ c.in_ok-third.ensures with_second refl

pub add_property-requires-4 : goal.add_property-requires-4
add_property-requires-4 c =
    let new = names_new _ _ _ _ _ _ c.in_ok-id.ensures.next c.in_ok-id.ensures.made refl in
    let with_first = names_added _ _ _ c.in_ok-first.ensures c.in_ok-add_property.ensures.made new in
    let with_second = names_added _ _ _ c.in_ok-second.ensures c.in_ok-add_property-2.ensures.made with_first in
    let with_third = names_added _ _ _ c.in_ok-third.ensures c.in_ok-add_property-3.ensures.made with_second in
    is_free _ c.in_ok-fourth.ensures with_third refl

pub returns : goal.returns
returns c =
    comes_new _ _ _ c.in_ok-id.id
    (λ id. add_fields id (fields (Accessor c.args.getter c.args.setter c.args.enumerable c.args.configurable))
    >>= λ _. give_object id)
    c.in_ok-id.ensures.next
    c.in_ok-id.ensures.made
    (comes_added c.in_ok-id.id c.in_ok-first.ensures
    (c.open.ensures ∙ ap (λ v. Plain v true true true) c.accessor_value.ensures) c.in_ok-add_property.ensures.made
    (comes_added c.in_ok-id.id c.in_ok-second.ensures
    (c.open-2.ensures ∙ ap (λ v. Plain v true true true) c.accessor_value-2.ensures) c.in_ok-add_property-2.ensures.made
    (comes_added c.in_ok-id.id c.in_ok-third.ensures c.open-3.ensures c.in_ok-add_property-3.ensures.made
    (comes_added c.in_ok-id.id c.in_ok-fourth.ensures c.open-4.ensures c.in_ok-add_property-4.ensures.made
    comes_to))))
